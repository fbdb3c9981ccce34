use Rattle.std.proofs.Common.{◌≡◌, [], length, refl, sym, ap, ◌∙◌, arith}
use Rattle.gq_base.specs.Catalogs.{Tables}
use Rattle.gq_store.specs.Cells.{node_fields, node_fields_of}
use Rattle.std.specs.Prelude.{slice_get}
use Rattle.gq_render.proofs.Keys.{no_property, no_row, no_table}
use Rattle.gq_render.proofs.value.key_of.Goals as goal
use Rattle.gq_render.proofs.value.key_of.Goals.{then-node-node_tables-via-then-node-node_tables, then-node-node_tables-via-else-node-node_tables+then-node-node_count}

pub returns-then-node-node_tables : goal.returns-then-node-node_tables
returns-then-node-node_tables c =
    let tables = ap (λ (t : Tables). length t.nodes) c.catalog-catalog.ensures.value in
    elim c.then-node-node_tables.branch [
      | then-node-node_tables-via-then-node-node_tables w ↦ sym (no_table c.args.graph.now c.args.node.table c.args.node.row c.catalog-catalog.ensures.valid (omega (arith, tables)))
      | then-node-node_tables-via-else-node-node_tables+then-node-node_count w ↦ sym (no_row c.args.graph.now c.args.node.table c.args.node.row (omega arith))
    ]

pub returns-then-is_empty : goal.returns-then-is_empty
returns-then-is_empty c =
    let tables = ap (λ (t : Tables). length t.nodes) c.catalog-catalog.ensures.value in
    let fields : node_fields c.args.graph.now c.args.node.table ≡ [] =
    ap (λ (t : Tables). node_fields_of (slice_get t.nodes c.args.node.table)) (sym c.catalog-catalog.ensures.value)
    ∙ ap node_fields_of (sym c.node_table.ensures) ∙ c.if-is_empty.ensures.0 refl in
    sym (no_property c.args.graph.now c.args.node.table c.args.node.row c.catalog-catalog.ensures.valid (omega (arith, tables)) (omega arith) fields)
