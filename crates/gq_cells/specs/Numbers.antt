-- What a number stands for by its source.
use Rattle.std.specs.Prelude.{ℕ, ◌≡◌, ◌<◌, Option, Some, None, List, length, slice_index_or}
use Rattle.gq_base.specs.Plain.{Graph, cell_val}
use Rattle.gq_base.specs.Values.{Val, null, node, rel, val}
use Rattle.gq_store.specs.Places.{number_at}
use Rattle.gq_store.specs.Columns.{decoded}
use Rattle.gq_cells.specs.declared.source.Source.{Source}
use Rattle.gq_cells.specs.declared.source.Source.TheVariants as source

-- the relationship of a table with a load number, null where there is none
abbrev pub numbered_rel : ℕ → Option ℕ → Val
numbered_rel table None = null
numbered_rel table (Some number) = rel (record { table = table; row = number })

-- the value of a number: the source's own value, an element, or the cell of a property, null where there is none
abbrev pub source_val : Source → ℕ → Val
source_val (source.Value v) number = val v
source_val (source.Node table) number = node (record { table = table; row = number })
source_val (source.Rel graph table) number = numbered_rel table (number_at graph.now table number)
source_val (source.Property property) number = cell_val (slice_index_or (decoded property.now) number None)

abbrev pub number_val : Option Source → ℕ → Val
number_val None number = null
number_val (Some s) number = source_val s number

-- the graph has a relationship of the table at the place
pub record HasPlace (g : Graph) (table place : ℕ) : Type 0 where
  pub within : table < length g.catalog.rels
  pub there : number_at g table place ≡ None → ⊥

-- a source that has the number
abbrev pub IsNumber : Option Source → ℕ → Type 0
IsNumber None number = ⊥
IsNumber (Some (source.Rel graph table)) number = HasPlace graph.now table number
IsNumber (Some (source.Property property)) number = number < length (decoded property.now)
IsNumber (Some s) number = Unit {0}

-- values, and the sources of their numbers
pub record Kept : Type 0 where
  pub sources : List Source
  pub values : List Val
