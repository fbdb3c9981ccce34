use Rattle.std.proofs.Common.{◌≡◌, ℕ, List, Option, arith, map}
use Rattle.gq_base.specs.declared.cell.Cell.{Cell}
use Rattle.gq_store.proofs.Keeping.{columns_more, numbered_kinds, property_kept, rels_reach}
use Rattle.gq_store.specs.Columns.{decoded}
use Rattle.gq_store.specs.RelColumns.{cell_numbered}
use Rattle.gq_store.proofs.property.TableCells.of_rels.Goals as goal

pub placed_cells-requires-clause-reach : goal.placed_cells-requires-clause-reach
placed_cells-requires-clause-reach c = rels_reach c.args.fields.now c.args.rels.now c.loop-property.property c.requires.fit (omega arith)

pub build-requires-clause-kinds : goal.build-requires-clause-kinds
build-requires-clause-kinds c =
    rw c.as_slice.ensures.value (numbered_kinds c.args.fields.now c.args.rels.now c.loop-property.property c.requires.fit (omega arith) _ c.args.numbers.now _ c.index-fields-property.is c.requires.within c.in_ok-cells.ensures)

pub loop-property-preserved : goal.loop-property-preserved
loop-property-preserved c =
    let cells : ℕ → List (Option Cell) = λ property. map (λ number. cell_numbered property c.args.rels.now number) c.args.numbers.now in
    let made : decoded c.in_ok-build.field-0 ≡ cells c.loop-property.property = cc (c.in_ok-build.ensures.cells, c.as_slice.ensures.value, c.in_ok-cells.ensures) in
    rw c.in_ok-push.ensures.items (columns_more c.loop-property.property c.args.fields.now cells c.loop-property.properties.items _ c.loop-property.invariant
    (property_kept c.args.fields.now cells c.loop-property.property _ _ c.index-fields-property.is (omega arith) made c.in_ok-build.ensures.kind))
