use Rattle.std.proofs.Common.{◌≡◌, ℕ, List, Option, arith}
use Rattle.gq_base.specs.declared.cell.Cell.{Cell}
use Rattle.gq_store.proofs.Keeping.{columns_more, kinds, property_kept, rows_reach}
use Rattle.gq_store.specs.Columns.{column_of, decoded}
use Rattle.gq_store.proofs.property.TableCells.of_rows.Goals as goal

pub cells_of-requires : goal.cells_of-requires
cells_of-requires c = rows_reach c.args.fields.now c.args.rows.now c.loop-property.property c.requires.fit (omega arith)

pub build-requires-clause-kinds : goal.build-requires-clause-kinds
build-requires-clause-kinds c = rw c.as_slice.ensures.value (kinds c.args.fields.now c.args.rows.now c.loop-property.property _ _ c.requires.fit (omega arith) c.index-fields-property.is c.in_ok-cells.ensures)

pub loop-property-preserved : goal.loop-property-preserved
loop-property-preserved c =
    let cells : ℕ → List (Option Cell) = λ property. column_of property c.args.rows.now in
    let made : decoded c.in_ok-build.field-0 ≡ cells c.loop-property.property = cc (c.in_ok-build.ensures.cells, c.as_slice.ensures.value, c.in_ok-cells.ensures) in
    rw c.in_ok-push.ensures.items (columns_more c.loop-property.property c.args.fields.now cells c.loop-property.properties.items _ c.loop-property.invariant
    (property_kept c.args.fields.now cells c.loop-property.property _ _ c.index-fields-property.is (omega arith) made c.in_ok-build.ensures.kind))
