use Rattle.std.proofs.Common.{◌≡◌, ◌<◌, ℕ, List, Option, Some, length, sym, ap, subst, ◌∙◌}
use Rattle.std.specs.Prelude.{All, IfSome, slice_get}
use Rattle.gq_base.specs.Catalogs.{Tables}
use Rattle.gq_base.specs.Plain.{Graph, all_of}
use Rattle.gq_base.specs.declared.catalog.Field.{Field}
use Rattle.gq_base.specs.declared.catalog.RelTable.{RelTable}
use Rattle.gq_base.specs.declared.cell.PlainRel.{PlainRel}
use Rattle.gq_store.specs.Cells.{rel_fields, rel_fields_of}
use Rattle.gq_store.specs.RelColumns.{numbers_by_place}
use Rattle.gq_store.proofs.Keeping.{rel_cells_are, rels_fit}
use Rattle.gq_store.proofs.Placing.{numbers_within}
use Rattle.gq_store.proofs.Validity.{rel_rows_few}
use Rattle.gq_store.proofs.building.keep_rels.Goals as goal

-- the fields of the table
fields_are : (g : Graph) (rel : ℕ) (tables : Tables) (table : RelTable) (fields : List Field) → fields ≡ table.fields → Some table ≡ slice_get tables.rels rel → tables ≡ g.catalog → fields ≡ rel_fields g rel
fields_are g rel tables table fields are is same = are ∙ ap rel_fields_of is ∙ ap (λ (t : Tables). rel_fields_of (slice_get t.rels rel)) same

pub shape_of-shape-requires-clause-table : goal.shape_of-shape-requires-clause-table
shape_of-shape-requires-clause-table c = sym (c.rel_table-table.ensures ∙ ap (λ (t : Tables). slice_get t.rels c.args.rel) (c.catalog.ensures.value ∙ c.requires.catalog))

pub links_of-requires-clause-rels : goal.links_of-requires-clause-rels
links_of-requires-clause-rels c = sym (ap all_of (sym c.requires.rels ∙ c.rel_rows-rels.ensures))

pub of_rels-requires-clause-few : goal.of_rels-requires-clause-few
of_rels-requires-clause-few c = rel_rows_few c.args.of.now.value c.args.rel c.rel_rows-rels.result.now c.requires.valid (sym c.requires.rels ∙ c.rel_rows-rels.ensures) c.requires.within

pub of_rels-requires-clause-fit : goal.of_rels-requires-clause-fit
of_rels-requires-clause-fit c =
    let fields = fields_are c.args.of.now.value c.args.rel _ _ _ c.as_slice-fields.ensures c.rel_table-table.ensures (c.catalog.ensures.value ∙ c.requires.catalog) in
    rels_fit c.args.of.now.value c.args.rel c.rel_rows-rels.result.now c.as_slice-fields.result.now c.requires.valid c.requires.within (sym c.requires.rels ∙ c.rel_rows-rels.ensures) fields

pub of_rels-requires-clause-within : goal.of_rels-requires-clause-within
of_rels-requires-clause-within c =
    let g = c.args.of.now.value in
    let is : slice_get g.rels c.args.rel ≡ Some c.rel_rows-rels.result.now = sym c.requires.rels ∙ c.rel_rows-rels.ensures in
    rw (c.as_slice.ensures.value, c.in_ok-numbers.ensures.numbers)
    (subst (λ (l : List PlainRel). All (λ (number : Option ℕ). IfSome number (λ n. n < length l)) (numbers_by_place g c.args.rel)) (ap all_of is) (numbers_within g c.args.rel c.requires.valid c.requires.within))

pub returns-clause-cells : goal.returns-clause-cells
returns-clause-cells c =
    let g = c.args.of.now.value in
    let is : slice_get g.rels c.args.rel ≡ Some c.rel_rows-rels.result.now = sym c.requires.rels ∙ c.rel_rows-rels.ensures in
    let fields = fields_are g c.args.rel _ _ _ c.as_slice-fields.ensures c.rel_table-table.ensures (c.catalog.ensures.value ∙ c.requires.catalog) in
    rel_cells_are g c.args.rel c.rel_rows-rels.result.now c.as_slice-fields.result.now _ c.in_ok-cells.cells is fields (c.as_slice.ensures.value ∙ c.in_ok-numbers.ensures.numbers) c.in_ok-cells.ensures
