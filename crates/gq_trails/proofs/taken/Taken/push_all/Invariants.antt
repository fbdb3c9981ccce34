use Rattle.std.proofs.Common.{◌≡◌, ◌++◌, take}
use Rattle.gq_trails.proofs.taken.Taken.push_all.Given as goal

abbrev pub invariant-each : goal.invariant-each
invariant-each l = l.self ≡ l.fn.self ++ take l.rel-index l.rels
