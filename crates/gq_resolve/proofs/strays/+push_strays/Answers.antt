use Rattle.gq_resolve.proofs.ExistsPaths.{one_more}
use Rattle.gq_resolve.specs.Places.{strays}
use Rattle.gq_resolve.proofs.strays.+push_strays.Goals as goal

pub push_all_strays-loop-tree-preserved : goal.push_all_strays-loop-tree-preserved
push_all_strays-loop-tree-preserved t c =
    one_more strays c.args.trees.now c.loop-tree.tree-index c.tree-item.result c.loop-tree-test.true c.tree-item.is c.loop-tree.paths c.push_strays.new.paths _ c.in_ok-push_strays.ensures c.loop-tree.invariant
