use Rattle.std.proofs.Common.{inl, inr, sym, ap, ◌∙◌, arith}
use Rattle.std.proofs.lemmas.Bool.{cases_eq}
use Rattle.gq_steps.specs.Tests.{test_of}
use Rattle.gq_steps.specs.Levels.{step_at}
use Rattle.gq_steps.specs.Moves.{run_of}
use Rattle.gq_steps.proofs.Trying.{as_many_steps}
use Rattle.gq_sift.proofs.reading.reads_alone.Goals as goal

pub loop-depth-init : goal.loop-depth-init
loop-depth-init c = λ d i above below. absurd (omega (arith, above, below))

pub reads_at-requires : goal.reads_at-requires
reads_at-requires c = let end = c.requires.inside in let below = c.loop-depth-test.true in omega (arith, end, below, as_many_steps c.args.plan_run.now)

pub loop-depth-preserved : goal.loop-depth-preserved
loop-depth-preserved c = λ d i above below is. elim (cases_eq d c.loop-depth.depth) [
  | inl same ↦ c.reads_at.ensures c.if-not-reads_at.false i (ap (λ n. test_of (step_at (run_of c.args.plan_run.now) n)) (sym same) ∙ is)
  | inr other ↦ c.loop-depth.invariant d i above (omega (arith, below, other)) is
]

pub returns : goal.returns
returns c = λ on d i above below is. c.loop-depth.invariant d i above (let high = c.loop-depth-test.false in omega (arith, below, high)) is
