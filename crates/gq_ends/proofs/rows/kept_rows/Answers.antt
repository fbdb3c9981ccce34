use Rattle.std.proofs.Common.{◌≡◌, ◌<◌, ◌+◌, ◌-◌, ◌∙◌, ℕ, ℤ, Option, List, true, false, nat_lt, length, sym, ap, ap₂, subst, arith}
use Rattle.std.specs.Prelude.{◌&&◌}
use Rattle.std.proofs.lemmas.Bool.Decides.{nat_tests}
use Rattle.gq_filter.specs.LaneTests.{holds}
use Rattle.gq_ends.specs.declared.end_test.EndTest.{EndTest}
use Rattle.gq_ends.specs.steps.Tests.{row_cell, span_cell}
use Rattle.gq_ends.proofs.Spanning.{span_is}
use Rattle.gq_ends.proofs.rows.kept_rows.Goals as goal

pub tests-init : goal.tests-init
tests-init c = record {
  within = λ k past. (let none : nat_lt k (c.args.high - c.args.low) ≡ false = grind (arith, nat_tests, past) in c.first-marks.ensures.below k ∙ none);
  kept = λ k less all. (let some : nat_lt k (c.args.high - c.args.low) ≡ true = grind (arith, nat_tests, less) in c.first-marks.ensures.below k ∙ some);
}

pub tests-preserved : goal.tests-preserved
tests-preserved c =
    let tests : List EndTest = c.args.tests.now in
    let i : ℕ = c.tests.test-index in
    let t : EndTest = c.test-item.result in
    let low : i < length tests = omega (arith, c.tests-test.true) in
    let column = t.column.now in
    let cells : ℕ → ℕ → Option ℤ = λ k lane. span_cell column c.args.low c.args.high k lane in
    record {
      within = λ k past. c.keep_lanes.ensures k ∙ ap (λ b. b && holds (cells k) t.test) (c.tests.invariant.within k past);
      kept = λ k less all.
          c.keep_lanes.ensures k
          ∙ ap₂ ◌&&◌ (c.tests.invariant.kept k less all)
          (ap (λ f. holds f t.test) (span_is column c.args.low c.args.high k less)
          ∙ subst (λ (u : EndTest). holds (row_cell u.column.now (c.args.low + k)) u.test ≡ true) (sym c.test-item.is) (all i t low));
    }
