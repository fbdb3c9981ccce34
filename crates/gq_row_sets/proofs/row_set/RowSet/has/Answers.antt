use Rattle.std.proofs.Common.{◌<◌, ◌/◌, ◌%◌, ◌∙◌, [], false, length, sym, ap, arith}
use Rattle.std.proofs.lemmas.List.{get_or_default}
use Rattle.gq_bits.specs.Places.{is_marked}
use Rattle.gq_bits.specs.declared.TheConstants.{VECTOR}
use Rattle.gq_row_sets.specs.Rows.{RowsTold}
use Rattle.gq_row_sets.proofs.Pieces.{get_or-first_rows, length-first_rows}
use Rattle.gq_row_sets.proofs.row_set.RowSet.has.Goals as goal

pub index-requires : goal.index-requires
index-requires c =
    let long = length-first_rows c.self.inside.told c.self.inside.pieces.items in
    let seen = ap (λ (s : RowsTold). length s.told) c.self.view_is in
    omega (arith, c.requires, long, seen, c.self.invariant, c.self.inside.pieces.ok.0)

pub returns : goal.returns
returns c =
    let i = c.self.inside in
    let long = length-first_rows i.told i.pieces.items in
    let seen = ap (λ (s : RowsTold). length s.told) c.self.view_is in
    let low : c.args.row < i.told = omega (arith, c.requires, long, seen) in
    c.get.ensures.value
    ∙ ap (λ m. is_marked m (c.args.row % VECTOR)) (c.index.ensures ∙ get_or_default i.pieces.items (c.args.row / VECTOR) c.index.result.now [] (omega (arith, low, c.self.invariant)))
    ∙ sym (get_or-first_rows i.told i.pieces.items c.args.row false low) ∙ ap (λ (s : RowsTold). is_marked s.told c.args.row) c.self.view_is
