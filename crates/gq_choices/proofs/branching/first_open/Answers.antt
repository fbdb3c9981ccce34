use Rattle.std.proofs.Common.{arith, sym, ◌∙◌}
use Rattle.gq_choices.proofs.Branches.{decided_more}
use Rattle.gq_choices.proofs.branching.first_open.Goals as goal

pub returns-then-not-is_decided : goal.returns-then-not-is_decided
returns-then-not-is_decided c = record { within = omega arith; decided = c.loop-at.invariant }

pub loop-at-preserved : goal.loop-at-preserved
loop-at-preserved c =
    decided_more c.args.steps.now c.loop-at.at c.index-steps-at.result c.loop-at-test.true c.index-steps-at.is (sym c.is_decided.ensures ∙ c.if-not-is_decided.false) c.loop-at.invariant
