use Rattle.std.proofs.Common.{sym, subst}
use Rattle.std.specs.Prelude.{IfSome}
use Rattle.gq_filter.specs.Placed.{IsPassingTest, IsPlacedTest}
use Rattle.gq_filter.specs.RowTests.{RowCondition}
use Rattle.gq_filter.specs.steps.Placing.{IsPlacementOf, IsTestOf}
use Rattle.gq_filter.specs.steps.RowCells.{DecidesRows}
use Rattle.gq_filter.proofs.Placing.{passed_by, refused_by}
use Rattle.gq_filter.proofs.row_test.RowTest.placed.Goals as goal

pub placed_test-requires : goal.placed_test-requires
placed_test-requires c = subst (λ feeds. IfSome c.self.inside.placement (IsPlacementOf feeds)) (sym c.as_slice.ensures.value) c.self.invariant.6

pub returns-in-Some-clause-refuses : goal.returns-in-Some-clause-refuses
returns-in-Some-clause-refuses c =
    let i = c.self.inside in
    subst (λ (s : RowCondition). IfSome c.placed_test.result (IsPlacedTest s c.args.rel)) c.self.view_is
    (refused_by i.graph.now i.typed.now i.condition.now i.feeds.items c.in-Some.test c.self.invariant.0
    (subst (λ o. DecidesRows i.graph.now i.typed.now i.condition.now i.feeds.items o) c.in-Some.is c.self.invariant.1)
    c.args.rel c.placed_test.result
    (subst (λ fs. IfSome c.placed_test.result (IsTestOf c.in-Some.test fs c.args.rel)) c.as_slice.ensures.value c.placed_test.ensures))

pub returns-in-Some-clause-passes : goal.returns-in-Some-clause-passes
returns-in-Some-clause-passes c =
    let i = c.self.inside in
    subst (λ (s : RowCondition). IfSome c.placed_test.result (IsPassingTest s c.args.rel)) c.self.view_is
    (passed_by i.graph.now i.typed.now i.condition.now i.feeds.items c.in-Some.test c.self.invariant.0
    (subst (λ o. DecidesRows i.graph.now i.typed.now i.condition.now i.feeds.items o) c.in-Some.is c.self.invariant.1)
    c.args.rel c.placed_test.result
    (subst (λ fs. IfSome c.placed_test.result (IsTestOf c.in-Some.test fs c.args.rel)) c.as_slice.ensures.value c.placed_test.ensures))
