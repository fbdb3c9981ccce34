-- What a choice of tables and readings has.
use Rattle.std.specs.Prelude.{◌≡◌, ℕ, ◌<◌, length}
use Rattle.std.specs.List.{AllByRecursion}
use Rattle.gq_base.specs.Catalogs.{Tables}
use Rattle.gq_alternatives.specs.Alternatives.{Choice}

-- a choice has so many tables and so many readings, all of the catalogue
pub record IsChoice (catalog : Tables) (n m : ℕ) (c : Choice) : Type 0 where
  pub readings : AllByRecursion (λ r. r.table < length catalog.rels) c.readings
  pub tables : AllByRecursion (λ t. t < length catalog.nodes) c.tables
  pub reading_count : length c.readings ≡ m
  pub table_count : length c.tables ≡ n
