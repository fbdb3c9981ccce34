use Rattle.std.proofs.Common.{◌≡◌, ◌<◌, true, Some, length, slice_get, sym, ap, ◌∙◌, arith}
use Rattle.gq_base.specs.Plain.{Graph}
use Rattle.gq_base.specs.Valid.{is_valid}
use Rattle.gq_base.specs.declared.RelTable.{RelTable}
use Rattle.gq_store.proofs.Validity.{node_tables_are, rel_table_is}
use Rattle.gq_masks.proofs.mask.end_count.Goals as goal

ends : (g : Graph) (table : _) (t : RelTable) → is_valid g ≡ true → slice_get g.catalog.rels table ≡ Some t → (t.from < length g.catalog.nodes) × (t.to < length g.catalog.nodes)
ends g table t valid is =
    let found = rel_table_is g table t valid is in
    let from = found.1.from in
    let to = found.1.to in
    let many = node_tables_are g valid in
    (omega (arith, from, many), omega (arith, to, many))

pub node_count-requires : goal.node_count-requires
node_count-requires c =
    (ends c.args.graph.now c.args.table c.rel_table-rel.result.now c.catalog.ensures.valid
    (ap (λ k. slice_get k.rels c.args.table) (sym c.catalog.ensures.value) ∙ sym c.rel_table-rel.ensures)).0

pub node_count-requires-in-Backward : goal.node_count-requires-in-Backward
node_count-requires-in-Backward c =
    (ends c.args.graph.now c.args.table c.rel_table-rel.result.now c.catalog.ensures.valid
    (ap (λ k. slice_get k.rels c.args.table) (sym c.catalog.ensures.value) ∙ sym c.rel_table-rel.ensures)).1
