use Rattle.std.proofs.Common.{◌≡◌, ◌∙◌, inl, inr, ℕ, false, Option, Some, None, refl, sym, subst, arith}
use Rattle.std.specs.Prelude.{is_some}
use Rattle.std.proofs.lemmas.Bool.{cases_eq}
use Rattle.gq_steps.specs.Levels.{step_at}
use Rattle.gq_steps.specs.Moves.{run_of}
use Rattle.gq_steps.specs.Tests.{test_of}
use Rattle.gq_chains.proofs.blocks.goes_by_blocks.Goals as goal

none_of : (o : Option ℕ) → is_some o ≡ false → o ≡ None
none_of None e = refl
none_of (Some x) e = absurd (cc e)

pub loop-depth-init : goal.loop-depth-init
loop-depth-init c = λ d above below. absurd (omega (arith, above, below))

pub loop-depth-preserved : goal.loop-depth-preserved
loop-depth-preserved c = λ d above below. elim (cases_eq d c.loop-depth.depth) [
  | inl same ↦ subst (λ n. test_of (step_at (run_of c.args.plan_run.now) n) ≡ None) (sym same) (sym c.test_at.ensures ∙ none_of c.test_at.result (sym c.is_some.ensures ∙ c.if-is_some.false))
  | inr other ↦ c.loop-depth.invariant d above (omega (arith, below, other))
]

pub returns : goal.returns
returns c = λ is d above below. c.loop-depth.invariant d above (let past = c.loop-depth-test.false in omega (arith, below, past))
