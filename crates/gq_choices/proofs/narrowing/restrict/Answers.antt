use Rattle.std.proofs.Common.{ap, ◌∙◌, sym, slice_set, filter}
use Rattle.std.specs.Option.{option_copied}
use Rattle.gq_choices.specs.steps.Narrowing.{has}
use Rattle.gq_choices.proofs.NarrowedByOne.{past_restricts, set_restricts}
use Rattle.gq_choices.proofs.narrowing.restrict.Goals as goal

pub returns-in_default : goal.returns-in_default
returns-in_default c = past_restricts (has c.args.set.now) c.args.variable c.args.lists.now (sym c.get.ensures.value ∙ ap option_copied c.in_default.is)

pub returns : goal.returns
returns c =
    c.set.ensures ∙ ap (slice_set c.args.lists.now c.args.variable) (c.in_ok-fewer.ensures ∙ ap (filter (has c.args.set.now)) c.as_slice.ensures)
    ∙ set_restricts (has c.args.set.now) c.args.variable c.args.lists.now c.in-Some.tables.now (sym c.in-Some.ensures.value)
