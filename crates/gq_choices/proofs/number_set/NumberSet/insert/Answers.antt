use Rattle.std.proofs.Common.{◌<◌, length, ap, sym, subst, ◌∙◌}
use Rattle.gq_choices.specs.steps.Narrowing.{has, with_number}
use Rattle.gq_choices.proofs.NarrowedByOne.{has_set}
use Rattle.gq_choices.proofs.number_set.NumberSet.insert.Goals as goal

pub returns : goal.returns
returns c =
    ap has c.set.ensures
    ∙ has_set c.self.inside.marks c.args.number (subst (λ marks. c.args.number < length marks) (sym c.self.view_is) c.in_ok-make_room.ensures.room)
    ∙ ap (with_number c.args.number) (ap has c.self.view_is ∙ c.in_ok-make_room.ensures.same)
