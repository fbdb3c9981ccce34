use Rattle.std.proofs.Common.{map}
use Rattle.gq_store.specs.RelColumns.{cell_numbered}
use Rattle.gq_store.proofs.Keeping.{AreColumnsBelow}
use Rattle.gq_store.proofs.property.TableCells.of_rels.Given as goal

abbrev pub invariant-loop-property : goal.invariant-loop-property
invariant-loop-property l = AreColumnsBelow l.property l.fields (λ property. map (λ number. cell_numbered property l.rels number) l.numbers) l.properties.items
