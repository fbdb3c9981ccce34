use Rattle.std.proofs.Common.{◌≡◌, ◌++◌, drop, flat_map}
use Rattle.gq_resolve.specs.Places.{strays}
use Rattle.gq_resolve.proofs.strays.+push_strays.Given as goal

abbrev pub invariant-push_all_strays-loop-tree : goal.invariant-push_all_strays-loop-tree
invariant-push_all_strays-loop-tree l = l.paths ++ flat_map strays (drop l.tree-index l.trees) ≡ l.fn.paths ++ flat_map strays l.trees
