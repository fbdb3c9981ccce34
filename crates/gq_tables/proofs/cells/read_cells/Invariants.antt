use Rattle.csv.specs.Records.{fields_of}
use Rattle.gq_tables.proofs.CellSteps.{Filling}
use Rattle.gq_tables.proofs.cells.read_cells.Given as goal

abbrev pub invariant-loop-place : goal.invariant-loop-place
invariant-loop-place l = Filling l.number l.before l.fields (fields_of l.texts) l.fn.cells.items l.place l.cells.items
