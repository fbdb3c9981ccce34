use Rattle.gq_store.specs.Columns.{column_of}
use Rattle.gq_store.proofs.Keeping.{AreColumnsBelow}
use Rattle.gq_store.proofs.property.TableCells.of_rows.Given as goal

abbrev pub invariant-loop-property : goal.invariant-loop-property
invariant-loop-property l = AreColumnsBelow l.property l.fields (λ property. column_of property l.rows) l.properties.items
