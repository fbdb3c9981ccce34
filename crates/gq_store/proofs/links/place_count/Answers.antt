use Rattle.std.proofs.Common.{sym, ◌∙◌}
use Rattle.gq_base.specs.declared.direction.Direction.TheVariants.{Forward, Backward}
use Rattle.gq_store.proofs.Placing.{column_length, count_at_source, count_at_target, not_lists}
use Rattle.gq_store.proofs.Reading.{sources_is, targets_is}
use Rattle.gq_store.proofs.links.place_count.Goals as goal

pub unreachable-requires : goal.unreachable-requires
unreachable-requires c = not_lists _ _ _ c.requires.linked Forward _ c.in-Listed.is (sources_is _ _ _ _ c.requires.linked c.in-Sources.is).0

pub unreachable-requires-in-Listed-backward : goal.unreachable-requires-in-Listed-backward
unreachable-requires-in-Listed-backward c = not_lists _ _ _ c.requires.linked Backward _ c.in-Listed-backward.is (targets_is _ _ _ _ c.requires.linked c.in-Targets.is).1

pub returns-in-Single : goal.returns-in-Single
returns-in-Single c =
    let single = (sources_is _ _ _ _ c.requires.linked c.in-Sources.is).0 in
    c.len.ensures ∙ column_length _ _ _ c.requires.linked Forward _ c.in-Single.is ∙ sym (count_at_source c.args.of.now.value c.args.rel single)

pub returns-in-Single-backward : goal.returns-in-Single-backward
returns-in-Single-backward c =
    let (listed, single, is) = targets_is _ _ _ _ c.requires.linked c.in-Targets.is in
    c.len-in-Single-backward.ensures ∙ column_length _ _ _ c.requires.linked Backward _ c.in-Single-backward.is ∙ sym (count_at_target c.args.of.now.value c.args.rel listed single)
