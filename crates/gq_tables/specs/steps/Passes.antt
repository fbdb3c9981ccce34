-- The two passes in which the rows of a node table are read: first without regard to earlier keys, then key by key.
-- The definition of a table knows of no passes.
use Rattle.std.specs.Prelude.{ℕ, ◌+◌, List, [], ◌∷◌, Ok, Err}
use Rattle.gq_base.specs.Results.{and_then}
use Rattle.std.specs.declared.option.Option.{Option}
use Rattle.std.specs.declared.option.Option.TheVariants.{Some, None}
use Rattle.std.specs.declared.result.Result.{Result}
use Rattle.gq_tables.specs.Cells.{Cells}
use Rattle.gq_tables.specs.Nodes.{add_node}
use Rattle.gq_tables.specs.declared.refusal.TableRefusal.{TableRefusal}
use Rattle.gq_tables.specs.declared.refusal.TableRefusal.TheVariants as refusal

-- these rows, one after the other, behind those before them; the first is that of the record of this number
abbrev pub add_nodes : ℕ → List Cells → List Cells → Result (List Cells) TableRefusal
add_nodes number rows [] = Ok rows
add_nodes number rows (row ∷ more) = and_then (add_node number rows row) (λ all. add_nodes (number + 1) all more)

-- all rows, or the refusal of the row at this place; row 0 is that of record 2
abbrev pub up_to_repeat : Option ℕ → List Cells → Result (List Cells) TableRefusal
up_to_repeat None rows = Ok rows
up_to_repeat (Some at) rows = Err (refusal.KeyRepeated (at + 2))

-- the end of a reading that stopped at a refusal, or at none
abbrev pub ending : {T : Type 0} → Option TableRefusal → T → Result T TableRefusal
ending None value = Ok value
ending (Some e) value = Err e
