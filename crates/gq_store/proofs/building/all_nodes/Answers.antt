use Rattle.std.proofs.Common.{◌≡◌, length, sym, ap, ◌∙◌, arith}
use Rattle.std.specs.Prelude.{slice_get}
use Rattle.gq_base.specs.Catalogs.{Tables}
use Rattle.gq_store.specs.Cells.{node_fields, node_fields_of}
use Rattle.gq_store.proofs.Keeping.{node_cells_are, nodes_fit, rest_less, tables_more}
use Rattle.gq_store.proofs.Validity.{node_rows_few}
use Rattle.gq_store.proofs.building.all_nodes.Goals as goal

pub of_rows-requires-clause-few : goal.of_rows-requires-clause-few
of_rows-requires-clause-few c =
    let (below, catalog, rels, rest) = c.loop-table.invariant in
    node_rows_few c.args.plain.now c.loop-table.table c.node_rows.result.now c.requires (sym (rest.each c.loop-table.table (omega arith)) ∙ c.node_rows.ensures)

pub of_rows-requires-clause-fit : goal.of_rows-requires-clause-fit
of_rows-requires-clause-fit c =
    let (below, catalog, rels, rest) = c.loop-table.invariant in
    let fields : c.as_slice-fields.result.now ≡ node_fields c.args.plain.now c.loop-table.table =
    c.as_slice-fields.ensures ∙ ap node_fields_of c.node_table.ensures ∙ ap (λ (t : Tables). node_fields_of (slice_get t.nodes c.loop-table.table)) (c.catalog-in-loop-table.ensures.value ∙ catalog) in
    nodes_fit c.args.plain.now c.loop-table.table c.node_rows.result.now c.as_slice-fields.result.now c.requires (omega (arith, ap (λ (t : Tables). length t.nodes) c.catalog.ensures.value))
    (sym (rest.each c.loop-table.table (omega arith)) ∙ c.node_rows.ensures) fields

pub loop-table-preserved : goal.loop-table-preserved
loop-table-preserved c =
    let (below, catalog, rels, rest) = c.loop-table.invariant in
    let fields : c.as_slice-fields.result.now ≡ node_fields c.args.plain.now c.loop-table.table =
    c.as_slice-fields.ensures ∙ ap node_fields_of c.node_table.ensures ∙ ap (λ (t : Tables). node_fields_of (slice_get t.nodes c.loop-table.table)) (c.catalog-in-loop-table.ensures.value ∙ catalog) in (
      rw c.in_ok-push.ensures.items (tables_more _ _ _ c.loop-table.table c.loop-table.all.items c.in_ok-of_rows.field-0 below
          (node_cells_are c.args.plain.now c.loop-table.table c.node_rows.result.now c.as_slice-fields.result.now c.in_ok-of_rows.field-0 (sym (rest.each c.loop-table.table (omega arith)) ∙ c.node_rows.ensures) fields c.in_ok-of_rows.ensures)),
      c.set_node_rows.ensures.catalog ∙ catalog,
      c.set_node_rows.ensures.rels ∙ rels,
      rw c.set_node_rows.ensures.nodes (rest_less c.loop-table.table c.args.plain.now.nodes c.loop-table.plain.nodes c.new.result rest),
    )
