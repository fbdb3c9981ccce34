use Rattle.std.proofs.Common.{◌≡◌, true, Some, sym, subst}
use Rattle.std.specs.Prelude.{IfSome}
use Rattle.gq_filter.specs.Equal.{HaveOne}
use Rattle.gq_filter.specs.RowTests.{RowCondition, is_true_of}
use Rattle.gq_filter.specs.steps.RowCells.{DecidesRows}
use Rattle.gq_filter.proofs.Equal.{asked_of}
use Rattle.gq_filter.proofs.row_test.RowTest.equal_columns.Goals as goal
use Rattle.gq_plan.specs.declared.assignment.Assignment.{Assignment}

pub returns-in-Some : goal.returns-in-Some
returns-in-Some c =
    let i = c.self.inside in
    subst (λ (s : RowCondition). IfSome c.equal_columns.result (λ e. (row : Assignment) → is_true_of s row ≡ true → HaveOne e row)) c.self.view_is
    (asked_of i.graph.now i.typed.now i.condition.now c.as_slice.result.now c.in-Some.test
    (subst (λ fs. DecidesRows i.graph.now i.typed.now i.condition.now fs (Some c.in-Some.test)) (sym c.as_slice.ensures.value)
    (subst (λ o. DecidesRows i.graph.now i.typed.now i.condition.now i.feeds.items o) c.in-Some.is c.self.invariant.1))
    c.equal_columns.result c.equal_columns.ensures)
