-- What it means that an expression reads a property by its place in a table.
use Rattle.std.specs.Prelude.{◌≡◌, ℕ, ◌<◌, Some, None, Ok, length}
use Rattle.gq_base.specs.Plain.{Graph, cell_val}
use Rattle.gq_base.specs.Values.{null}
use Rattle.gq_expr.specs.Meaning.{meaning}
use Rattle.gq_expr.specs.Reading as reading
use Rattle.gq_expr.specs.declared.expr.Expr.{Expr}
use Rattle.gq_store.specs.Cells.{node_cell, node_fields, rel_cell, rel_fields}
use Rattle.gq_listed.specs.declared.places.Property.{Property}
use Rattle.gq_listed.specs.declared.places.Reader.{Reader}
use Rattle.gq_listed.specs.declared.places.Reader.TheVariants as reader

-- where the variable has a node of the table, the expression means the cell at the place, and null where it has nothing
pub record ReadsNode (g : Graph) (e : Expr) (p : Property) : Type 0 where
  pub within : p.table < length g.catalog.nodes
  pub place : p.place < length (node_fields g p.table)
  pub cells : (here : reading.Assignment) (row : ℕ) → here.nodes p.variable ≡ Some (record { table = p.table; row = row }) → meaning g here e ≡ Ok (cell_val (node_cell g p.table p.place row))
  pub nothing : (here : reading.Assignment) → here.nodes p.variable ≡ None → meaning g here e ≡ Ok null

-- the same of a relationship
pub record ReadsRel (g : Graph) (e : Expr) (p : Property) : Type 0 where
  pub within : p.table < length g.catalog.rels
  pub place : p.place < length (rel_fields g p.table)
  pub cells : (here : reading.Assignment) (number : ℕ) → here.rels p.variable ≡ Some (record { table = p.table; row = number }) → meaning g here e ≡ Ok (cell_val (rel_cell g p.table p.place number))
  pub nothing : (here : reading.Assignment) → here.rels p.variable ≡ None → meaning g here e ≡ Ok null

abbrev pub IsReader : Graph → Expr → Reader → Type 0
IsReader g e reader.Plain = Unit {0}
IsReader g e (reader.Node p) = ReadsNode g e p
IsReader g e (reader.Rel p) = ReadsRel g e p
