use Rattle.std.proofs.Common.{◌∙◌, Option, Bor, ap, length, map, arith}
use Rattle.std.proofs.lemmas.List.{length-map}
use Rattle.gq_base.specs.declared.cell.Cell.{Cell}
use Rattle.gq_dict.specs.Texts.{AreCodes}
use Rattle.gq_store.specs.Columns.{texts_in}
use Rattle.gq_store.proofs.Coding.{code_count, kept}
use Rattle.gq_store.proofs.property.Property.build.Goals as goal

pub integers_of-requires-clause-codes : goal.integers_of-requires-clause-codes
integers_of-requires-clause-codes c =
    let codes : AreCodes c.in_ok-dict.field-0.dict (texts_in (map (λ (cell : Bor (Option Cell)). cell.now) c.args.cells.now)) c.in_ok-dict.field-0.codes.items = rw c.in_ok-texts_of.ensures.value at c.in_ok-dict.ensures.codes in
    ap length c.as_slice.ensures.value ∙ code_count _ _ _ codes

pub build-requires-2 : goal.build-requires-2
build-requires-2 c =
    let codes : AreCodes c.in_ok-dict.field-0.dict (texts_in (map (λ (cell : Bor (Option Cell)). cell.now) c.args.cells.now)) c.in_ok-dict.field-0.codes.items = rw c.in_ok-texts_of.ensures.value at c.in_ok-dict.ensures.codes in
    omega (arith, (c.in_ok-integers.ensures c.in_ok-dict.field-0.dict (rw c.as_slice.ensures.value codes)).len, length-map c.args.cells.now (λ (cell : Bor (Option Cell)). cell.now), c.requires.few)

pub invariant_of-result : goal.invariant_of-result
invariant_of-result c =
    let codes : AreCodes c.in_ok-dict.field-0.dict (texts_in (map (λ (cell : Bor (Option Cell)). cell.now) c.args.cells.now)) c.in_ok-dict.field-0.codes.items = rw c.in_ok-texts_of.ensures.value at c.in_ok-dict.ensures.codes in
    (kept c.args.kind c.in_ok-dict.field-0.dict c.args.cells.now c.in_ok-integers.integers c.in_ok-column.column c.in_ok-texts_of.field-0.items c.requires.few c.in_ok-dict.ensures.few c.requires.kinds
    c.in_ok-dict.ensures.ascending c.in_ok-dict.ensures.same c.in_ok-texts_of.ensures.value (c.in_ok-integers.ensures c.in_ok-dict.field-0.dict (rw c.as_slice.ensures.value codes)) c.in_ok-column.ensures).1

pub returns-clause-cells : goal.returns-clause-cells
returns-clause-cells c =
    let codes : AreCodes c.in_ok-dict.field-0.dict (texts_in (map (λ (cell : Bor (Option Cell)). cell.now) c.args.cells.now)) c.in_ok-dict.field-0.codes.items = rw c.in_ok-texts_of.ensures.value at c.in_ok-dict.ensures.codes in
    (kept c.args.kind c.in_ok-dict.field-0.dict c.args.cells.now c.in_ok-integers.integers c.in_ok-column.column c.in_ok-texts_of.field-0.items c.requires.few c.in_ok-dict.ensures.few c.requires.kinds
    c.in_ok-dict.ensures.ascending c.in_ok-dict.ensures.same c.in_ok-texts_of.ensures.value (c.in_ok-integers.ensures c.in_ok-dict.field-0.dict (rw c.as_slice.ensures.value codes)) c.in_ok-column.ensures).0
