use Rattle.std.proofs.Common.{inl, inr, sym, subst, arith}
use Rattle.std.proofs.lemmas.Bool.{cases_eq}
use Rattle.gq_steps.specs.Moves.{run_of}
use Rattle.gq_sift.specs.steps.Asks.{IsAsked}
use Rattle.gq_sift.proofs.cuts.are_all.Goals as goal

pub loop-depth-init : goal.loop-depth-init
loop-depth-init c = λ d above below. absurd (omega (arith, above, below))

pub loop-depth-preserved : goal.loop-depth-preserved
loop-depth-preserved c = λ d above below. elim (cases_eq d c.loop-depth.depth) [
  | inl same ↦ subst (λ n. IsAsked (run_of c.args.plan_run.now) c.args.ask n) (sym same) (c.is_asked.ensures c.if-not-is_asked.false)
  | inr other ↦ c.loop-depth.invariant d above (omega (arith, below, other))
]

pub returns : goal.returns
returns c = λ on d above below. c.loop-depth.invariant d above (let high = c.loop-depth-test.false in omega (arith, below, high))
