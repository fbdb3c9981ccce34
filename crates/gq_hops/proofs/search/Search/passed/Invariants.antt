use Rattle.std.proofs.Common.{◌-◌}
use Rattle.gq_hops.specs.steps.Searches.{IsPassedTo}
use Rattle.gq_hops.proofs.search.Search.passed.Given as goal

abbrev pub invariant-hops : goal.invariant-hops
invariant-hops l = IsPassedTo l.run l.self l.level

abbrev pub decreases-hops : goal.decreases-hops
decreases-hops l = 4294967296 - l.level.place
