use Rattle.std.proofs.Common.{ap, ◌∙◌}
use Rattle.gq_choices.specs.steps.Narrowing.{has}
use Rattle.gq_choices.proofs.NarrowedByOne.{has_more}
use Rattle.gq_choices.proofs.number_set.NumberSet.make_room.Goals as goal

pub loop-self-preserved : goal.loop-self-preserved
loop-self-preserved c = ap has c.in_ok-push.ensures.pushed ∙ has_more c.loop-self.self-inside.marks ∙ c.loop-self.invariant
