use Rattle.std.proofs.Common.{◌≡◌, suc, ◌-◌, length}
use Rattle.gq_choices.specs.steps.Narrowing.{has}
use Rattle.gq_choices.proofs.number_set.NumberSet.make_room.Given as goal

abbrev pub invariant-loop-self : goal.invariant-loop-self
invariant-loop-self l = has l.self-inside.marks ≡ has l.fn.self

abbrev pub decreases-loop-self : goal.decreases-loop-self
decreases-loop-self l = suc l.place - length l.self-inside.marks
