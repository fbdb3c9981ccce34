-- The sources of the properties of tables.
use Rattle.std.specs.Prelude.{ℕ, ◌≡◌, ◌<◌, Some}
use Rattle.gq_base.specs.Plain.{Graph, cell_val}
use Rattle.gq_base.specs.Valid.{row_count}
use Rattle.gq_store.specs.Cells.{node_cell, rel_cell}
use Rattle.gq_store.specs.Places.{number_at}
use Rattle.gq_store.specs.RelColumns.{place_count}
use Rattle.gq_cells.specs.Numbers.{IsNumber, source_val}
use Rattle.gq_cells.specs.declared.source.Source.{Source}

-- a source has the rows of a node table, each for the value of a property
pub record IsNodeProperty (g : Graph) (table property : ℕ) (s : Source) : Type 0 where
  pub number : (row : ℕ) → row < row_count g.nodes table → IsNumber (Some s) row
  pub means : (row : ℕ) → row < row_count g.nodes table → source_val s row ≡ cell_val (node_cell g table property row)

-- a source has the places of a relationship table, each for the value of a property of the relationship there
pub record IsRelProperty (g : Graph) (table property : ℕ) (s : Source) : Type 0 where
  pub number : (place : ℕ) → place < place_count g table → IsNumber (Some s) place
  pub means : (place number : ℕ) → place < place_count g table → number_at g table place ≡ Some number
      → source_val s place ≡ cell_val (rel_cell g table property number)
