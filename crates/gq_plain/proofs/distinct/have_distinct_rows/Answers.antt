use Rattle.std.proofs.Common.{◌≡◌, ◌<◌, ◌∙◌, arith, false, get_or, length, sym, true}
use Rattle.std.proofs.lemmas.List.{get_or_default}
use Rattle.std.proofs.lemmas.Option.{get_or_from_slice_get}
use Rattle.gq_base.specs.Rels.{rel_seen}
use Rattle.gq_plain.proofs.DistinctSteps.{marked_once, marked_twice, row_within}
use Rattle.gq_plain.proofs.distinct.have_distinct_rows.Goals as goal

pub returns-then-index : goal.returns-then-index
returns-then-index c =
    let is = sym (get_or_from_slice_get c.args.rels.now c.loop-number.number (rel_seen c.rel.result) (rel_seen c.rel.result) c.rel.ensures) in
    let more : c.loop-number.number < length c.args.rels.now = omega arith in
    let less : c.row_at-row.result < length c.loop-number.marks.items =
    row_within _ _ _ _ _ c.loop-number.invariant more (rel_seen c.rel.result) is c.row_at-row.result c.row_at-row.ensures c.requires in
    let there : get_or c.loop-number.marks.items c.row_at-row.result false ≡ true =
    get_or_default c.loop-number.marks.items c.row_at-row.result false c.index.result.now less ∙ sym c.index.ensures ∙ c.if-index.true in
    sym (marked_twice _ _ _ _ _ c.loop-number.invariant more (rel_seen c.rel.result) is c.row_at-row.result c.row_at-row.ensures there)

pub loop-number-preserved : goal.loop-number-preserved
loop-number-preserved c =
    let is = sym (get_or_from_slice_get c.args.rels.now c.loop-number.number (rel_seen c.rel.result) (rel_seen c.rel.result) c.rel.ensures) in
    let more : c.loop-number.number < length c.args.rels.now = omega arith in
    let less : c.row_at-row.result < length c.loop-number.marks.items =
    row_within _ _ _ _ _ c.loop-number.invariant more (rel_seen c.rel.result) is c.row_at-row.result c.row_at-row.ensures c.requires in
    let absent : get_or c.loop-number.marks.items c.row_at-row.result false ≡ false =
    get_or_default c.loop-number.marks.items c.row_at-row.result false c.index.result.now less ∙ sym c.index.ensures ∙ c.if-index.false in
    marked_once _ _ _ _ _ c.loop-number.invariant more (rel_seen c.rel.result) is c.row_at-row.result c.row_at-row.ensures less absent
