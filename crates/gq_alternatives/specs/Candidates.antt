-- The relationship patterns with the readings that fit them, and the node variables with the tables that their labels allow.
use Rattle.std.specs.Prelude.{ℕ, nat_eq, Bool, not, ◌&&◌, ◌||◌, List, map, filter, length}
use Rattle.std.specs.List.{list_all, range_with_len}
use Rattle.gq_base.specs.Catalogs.{Tables}
use Rattle.gq_alternatives.specs.Alternatives.{Reading, all_readings, allows}
use Rattle.gq_alternatives.specs.Matches.{has_labels, has_type}
use Rattle.gq_scopes.specs.Patterns.{NodePattern, RelPattern}

-- a relationship pattern and candidates for its reading
pub record Step : Type 0 where
  pub pattern : RelPattern
  pub readings : List Reading

-- a reading has a type and a way of its pattern
abbrev pub reading_fits : Tables → RelPattern → Reading → Bool
reading_fits catalog p c = has_type catalog p.part.kinds c.table && allows p.part.arrow c.reversed

abbrev pub step_of : Tables → RelPattern → Step
step_of catalog p = record { pattern = p; readings = filter (reading_fits catalog p) (all_readings catalog) }

-- the relationship patterns with the readings that fit them
abbrev pub steps_of : Tables → List RelPattern → List Step
steps_of catalog ps = map (step_of catalog) ps

-- the labels of a node pattern allow a table for a variable
abbrev pub node_fits : Tables → ℕ → ℕ → NodePattern → Bool
node_fits catalog v table p = not (nat_eq p.variable v) || has_labels catalog p.part.labels table

abbrev pub labels_fit : Tables → List NodePattern → ℕ → ℕ → Bool
labels_fit catalog ps v table = list_all (node_fits catalog v table) ps

-- the tables that the labels allow for a variable, and for each of so many variables
abbrev pub tables_for : Tables → List NodePattern → ℕ → List ℕ
tables_for catalog ps v = filter (labels_fit catalog ps v) (range_with_len 0 (length catalog.nodes))

abbrev pub tables_of : Tables → List NodePattern → ℕ → List (List ℕ)
tables_of catalog ps count = map (tables_for catalog ps) (range_with_len 0 count)
