use Rattle.std.proofs.Common.{◌≡◌, Option, map, take, Bor}
use Rattle.gq_base.specs.declared.cell.Cell.{Cell}
use Rattle.gq_store.specs.RelColumns.{cell_numbered}
use Rattle.gq_store.proofs.property.placed_cells.Given as goal

abbrev pub invariant-loop-number : goal.invariant-loop-number
invariant-loop-number l = map (λ (cell : Bor (Option Cell)). cell.now) l.cells.items ≡ map (λ number. cell_numbered l.property l.rels number) (take l.number-index l.numbers)
