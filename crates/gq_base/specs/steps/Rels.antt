-- The relationships of a table as they are kept: their ends beside the rows of their cells.
use Rattle.std.specs.Prelude.{List, [], ◌∷◌}
use Rattle.std.specs.declared.option.Option.{Option}
use Rattle.gq_base.specs.declared.cell.Cell.{Cell}
use Rattle.gq_base.specs.declared.cell.PlainRel.{PlainRel}
use Rattle.gq_base.specs.declared.rels.Ends.{Ends}

-- the relationships with these ends, one for each row of cells
abbrev pub rels_of : List Ends → List (List (Option Cell)) → List PlainRel
rels_of [] rows = []
rels_of (e ∷ ends) [] = []
rels_of (e ∷ ends) (row ∷ rows) = record { source = e.source; target = e.target; cells = row } ∷ rels_of ends rows
