use Rattle.std.proofs.Common.{◌≡◌, ◌++◌, take}
use Rattle.gq_trails.proofs.trek.take_walk.Given as goal

abbrev pub invariant-rels : goal.invariant-rels
invariant-rels l = l.taken ≡ l.fn.taken ++ take l.place l.walker.rels
