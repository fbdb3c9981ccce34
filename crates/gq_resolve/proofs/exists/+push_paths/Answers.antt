use Rattle.gq_resolve.proofs.ExistsPaths.{one_more}
use Rattle.gq_resolve.specs.Places.{paths_in}
use Rattle.gq_resolve.proofs.exists.+push_paths.Goals as goal

pub push_all_paths-loop-tree-preserved : goal.push_all_paths-loop-tree-preserved
push_all_paths-loop-tree-preserved t c =
    one_more paths_in c.args.trees.now c.loop-tree.tree-index c.tree-item.result c.loop-tree-test.true c.tree-item.is c.loop-tree.paths c.push_paths.new.paths _ c.in_ok-push_paths.ensures c.loop-tree.invariant

pub push_compared_paths-loop-term-preserved : goal.push_compared_paths-loop-term-preserved
push_compared_paths-loop-term-preserved t c =
    one_more (λ t. paths_in t.tree) c.args.terms.now c.loop-term.term-index c.term-item.result c.loop-term-test.true c.term-item.is c.loop-term.paths c.push_paths.new.paths _ c.in_ok-push_paths.ensures c.loop-term.invariant

pub push_operand_paths-loop-term-preserved : goal.push_operand_paths-loop-term-preserved
push_operand_paths-loop-term-preserved t c =
    one_more (λ t. paths_in t.tree) c.args.terms.now c.loop-term.term-index c.term-item.result c.loop-term-test.true c.term-item.is c.loop-term.paths c.push_paths.new.paths _ c.in_ok-push_paths.ensures c.loop-term.invariant
