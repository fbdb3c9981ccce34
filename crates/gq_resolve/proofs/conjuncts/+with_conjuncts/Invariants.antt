use Rattle.std.proofs.Common.{◌≡◌, All, drop}
use Rattle.gq_ast.specs.Spans.{IsWholeTree}
use Rattle.gq_resolve.specs.steps.Conjuncts.{conjuncts_in, listed_behind}
use Rattle.gq_resolve.proofs.conjuncts.+with_conjuncts.Given as goal

abbrev pub invariant-with_all_conjuncts-loop-tree : goal.invariant-with_all_conjuncts-loop-tree
invariant-with_all_conjuncts-loop-tree l =
    All (IsWholeTree l.text) l.trees
    → listed_behind l.all l.text (conjuncts_in l.scope (drop l.tree-index l.trees)) ≡ listed_behind l.fn.before l.text (conjuncts_in l.scope l.trees)
