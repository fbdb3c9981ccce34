use Rattle.std.proofs.Common.{◌∙◌, ap, sym, subst, None, Some}
use Rattle.std.proofs.lemmas.Result.{IfOk-weaker}
use Rattle.gq_ast.specs.Spans.{IsWholeTree}
use Rattle.gq_ast.proofs.SpanLemmas.{and_whole, paren_whole, tree_span}
use Rattle.gq_ast.specs.declared.AstNode.TheVariants as ast
use Rattle.gq_resolve.specs.steps.Conjuncts.{listed_behind}
use Rattle.gq_resolve.proofs.Splits.{and_conjuncts, one_more, other_conjuncts, paren_conjuncts}
use Rattle.gq_resolve.proofs.conjuncts.+with_conjuncts.Goals as goal

pub with_all_conjuncts-returns-in-None : goal.with_all_conjuncts-returns-in-None
with_all_conjuncts-returns-in-None t c whole =
    let here = subst (IsWholeTree c.args.text.now) (sym c.tree-item.is) (whole c.loop-tree.tree-index c.tree-item.result c.loop-tree-test.true) in
    sym (one_more c.loop-tree.all c.args.text.now c.args.scope.now c.args.trees.now c.loop-tree.tree-index c.tree-item.result None c.loop-tree-test.true c.tree-item.is (sym c.in-None.is ∙ c.in_ok-more.ensures here))
    ∙ c.loop-tree.invariant whole

pub with_all_conjuncts-loop-tree-preserved : goal.with_all_conjuncts-loop-tree-preserved
with_all_conjuncts-loop-tree-preserved t c whole =
    let here = subst (IsWholeTree c.args.text.now) (sym c.tree-item.is) (whole c.loop-tree.tree-index c.tree-item.result c.loop-tree-test.true) in
    sym (one_more c.loop-tree.all c.args.text.now c.args.scope.now c.args.trees.now c.loop-tree.tree-index c.tree-item.result (Some c.in-Some.more) c.loop-tree-test.true c.tree-item.is (sym c.in-Some.is ∙ c.in_ok-more.ensures here))
    ∙ c.loop-tree.invariant whole

pub with_conjuncts-returns-in-And : goal.with_conjuncts-returns-in-And
with_conjuncts-returns-in-And t c =
    let is = c.in-And.is ∙ ap ast.And (sym c.as_slice.ensures) in
    let same = and_conjuncts c.args.scope.now c.args.tree.now c.as_slice.result.now is in
    IfOk-weaker c.with_all_conjuncts.result _ _
    (λ cs k whole. k (and_whole c.args.text.now c.args.tree.now c.as_slice.result.now is whole) ∙ ap (listed_behind c.args.before c.args.text.now) (sym same)) c.with_all_conjuncts.ensures

pub with_conjuncts-returns-in-Paren : goal.with_conjuncts-returns-in-Paren
with_conjuncts-returns-in-Paren t c =
    let is = c.in-Paren.is ∙ ap ast.Paren (sym c.get.ensures) in
    let same = paren_conjuncts c.args.scope.now c.args.tree.now c.get.result.now is in
    IfOk-weaker c.with_conjuncts.result _ _
    (λ cs k whole. k (paren_whole c.args.text.now c.args.tree.now c.get.result.now is whole) ∙ ap (listed_behind c.args.before c.args.text.now) (sym same)) c.with_conjuncts.ensures

pub with_conjuncts-returns-in_default : goal.with_conjuncts-returns-in_default
with_conjuncts-returns-in_default t c =
    let same = other_conjuncts c.args.scope.now c.args.tree.now c.in_default.not-And c.in_default.not-Paren in
    IfOk-weaker c.with_whole.result _ _
    (λ cs k whole. k (tree_span c.args.text.now c.args.tree.now whole) ∙ ap (listed_behind c.args.before c.args.text.now) (sym same)) c.with_whole.ensures
