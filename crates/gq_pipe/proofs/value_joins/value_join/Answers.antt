use Rattle.std.proofs.Common.{◌≡◌, true, inl, inr, sym, subst, arith}
use Rattle.std.proofs.lemmas.Bool.{cases_eq}
use Rattle.gq_steps.specs.Levels.{step_at}
use Rattle.gq_steps.specs.Moves.{run_of}
use Rattle.gq_pipe.specs.steps.Valued.{is_test}
use Rattle.gq_pipe.proofs.value_joins.value_join.Goals as goal

pub loop-depth-init : goal.loop-depth-init
loop-depth-init c = record { behind = omega arith; tests = λ d above below. absurd (omega (arith, above, below)) }

pub loop-depth-preserved : goal.loop-depth-preserved
loop-depth-preserved c =
    let behind = c.loop-depth.invariant.behind in
    record {
      behind = omega (arith, behind);
      tests = λ d above below. elim (cases_eq d c.loop-depth.depth) [
        | inl same ↦ subst (λ n. is_test (step_at (run_of c.args.plan_run.now) n) ≡ true) (sym same) (c.is_test.ensures c.if-not-is_test.false)
        | inr other ↦ c.loop-depth.invariant.tests d above (omega (arith, below, other))
      ];
    }

pub returns-in-Some : goal.returns-in-Some
returns-in-Some c = record {
  join = c.in_ok-build.ensures;
  depth = c.loop-depth.depth;
  above = c.loop-depth.invariant.behind;
  below = c.loop-depth-test.true;
  before = c.loop-depth.invariant.tests;
  asks = c.in-Some.ensures;
}
