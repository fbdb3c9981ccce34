use Rattle.std.proofs.Common.{◌≡◌, [], replicate}
use Rattle.gq_exists.specs.steps.Levels.{links_of}
use Rattle.gq_exists.proofs.paths.empty_levels.Given as goal

abbrev pub invariant-levels : goal.invariant-levels
invariant-levels l = links_of l.levels.items ≡ replicate l.counter []
