-- Properties that are read by their places.
use Rattle.std.proofs.Common.{◌≡◌, ◌∙◌, ℕ, ◌<◌, List, length, Option, Some, None, Ok, refl, ap, arith}
use Rattle.std.specs.Prelude.{slice_get}
use Rattle.gq_base.specs.Catalogs.{find_field}
use Rattle.gq_base.specs.Plain.{Graph, all_of, cell_at, cell_val, rows_of}
use Rattle.gq_base.specs.declared.catalog.NodeTable.{NodeTable}
use Rattle.gq_base.specs.declared.catalog.RelTable.{RelTable}
use Rattle.gq_base.specs.declared.cell.Cell.{Cell}
use Rattle.gq_base.specs.declared.cell.PlainRel.{PlainRel}
use Rattle.gq_expr.proofs.Equations.{meaning_NodeProperty, meaning_RelProperty}
use Rattle.gq_expr.specs.Reading as reading
use Rattle.gq_expr.specs.Reading.{get_in, node_property, property_at, rel_property}
use Rattle.gq_expr.specs.declared.expr.Expr.TheVariants.{NodeProperty, RelProperty}
use Rattle.gq_store.specs.Cells.{cell_in, node_cell, node_fields_of, rel_cell, rel_cell_in, rel_fields_of}
use Rattle.gq_listed.specs.steps.Places.{ReadsNode, ReadsRel}
use Rattle.gq_listed.specs.declared.places.Property.{Property}

module _ (g : Graph) (name : List ℕ) (p : Property) where
  node_named : (t : NodeTable) (row : ℕ) → slice_get g.catalog.nodes p.table ≡ Some t → find_field t.fields name ≡ Some p.place
      → node_property g (record { table = p.table; row = row }) name ≡ cell_val (node_cell g p.table p.place row)
  node_named t row is found = ap (λ o. cell_val (reading.node_cell name o (get_in (slice_get g.nodes p.table) row))) is ∙ same (slice_get g.nodes p.table)
    where
      alike : (o : Option (List (Option Cell))) → cell_val (reading.node_cell name (Some t) o) ≡ cell_val (cell_in p.place o)
      alike None = refl
      alike (Some cells) = ap (λ q. cell_val (cell_at cells q)) found

      same : (o : Option (List (List (Option Cell)))) → cell_val (reading.node_cell name (Some t) (get_in o row)) ≡ cell_val (cell_in p.place (slice_get (rows_of o) row))
      same None = refl
      same (Some rows) = alike (slice_get rows row)

  rel_named : (t : RelTable) (number : ℕ) → slice_get g.catalog.rels p.table ≡ Some t → find_field t.fields name ≡ Some p.place
      → rel_property g (record { table = p.table; row = number }) name ≡ cell_val (rel_cell g p.table p.place number)
  rel_named t number is found = ap (λ o. cell_val (reading.rel_cell name o (get_in (slice_get g.rels p.table) number))) is ∙ same (slice_get g.rels p.table)
    where
      alike : (o : Option PlainRel) → cell_val (reading.rel_cell name (Some t) o) ≡ cell_val (rel_cell_in p.place o)
      alike None = refl
      alike (Some r) = ap (λ q. cell_val (cell_at r.cells q)) found

      same : (o : Option (List PlainRel)) → cell_val (reading.rel_cell name (Some t) (get_in o number)) ≡ cell_val (rel_cell_in p.place (slice_get (all_of o) number))
      same None = refl
      same (Some rels) = alike (slice_get rels number)

  -- a property whose place was found among the fields of a table
  pub reads_node : (t : NodeTable) → p.table < length g.catalog.nodes → slice_get g.catalog.nodes p.table ≡ Some t → find_field t.fields name ≡ Some p.place → p.place < length t.fields
      → ReadsNode g (NodeProperty p.variable name) p
  reads_node t within is found place = record {
    within = within;
    place = omega (arith, place, ap length (ap node_fields_of is));
    cells = λ here row at.
        meaning_NodeProperty g here p.variable name ∙ ap (λ o. Ok (property_at (node_property g) o name)) at ∙ ap Ok (node_named t row is found);
    nothing = λ here at. meaning_NodeProperty g here p.variable name ∙ ap (λ o. Ok (property_at (node_property g) o name)) at;
  }

  pub reads_rel : (t : RelTable) → p.table < length g.catalog.rels → slice_get g.catalog.rels p.table ≡ Some t → find_field t.fields name ≡ Some p.place → p.place < length t.fields
      → ReadsRel g (RelProperty p.variable name) p
  reads_rel t within is found place = record {
    within = within;
    place = omega (arith, place, ap length (ap rel_fields_of is));
    cells = λ here number at.
        meaning_RelProperty g here p.variable name ∙ ap (λ o. Ok (property_at (rel_property g) o name)) at ∙ ap Ok (rel_named t number is found);
    nothing = λ here at. meaning_RelProperty g here p.variable name ∙ ap (λ o. Ok (property_at (rel_property g) o name)) at;
  }
