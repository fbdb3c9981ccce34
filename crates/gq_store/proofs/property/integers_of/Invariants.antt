use Rattle.std.proofs.Common.{Option, map, Bor}
use Rattle.gq_base.specs.declared.cell.Cell.{Cell}
use Rattle.gq_store.proofs.Coding.{AreIntegers}
use Rattle.gq_store.proofs.property.integers_of.Given as goal

abbrev pub invariant-loop-cell : goal.invariant-loop-cell
invariant-loop-cell l = AreIntegers l.cell-index (map (λ (cell : Bor (Option Cell)). cell.now) l.cells) l.codes l.left l.integers
