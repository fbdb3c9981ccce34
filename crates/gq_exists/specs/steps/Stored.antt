-- The lists of nodes that keys stand for.
use Rattle.std.specs.Prelude.{◌≡◌, ℕ, List, length}
use Rattle.gq_base.specs.declared.NodeId.{NodeId}
use Rattle.gq_exists.specs.declared.keys.Keys.{Keys}
use Rattle.gq_exists.specs.declared.keys.Keys.TheVariants as keys
use Rattle.gq_exists.specs.steps.Levels.{ArePaths, paths_in}
use Rattle.gq_exists.specs.steps.Rows.{AreRows, rows_in}

abbrev pub keys_in : Keys → List (List NodeId)
keys_in (keys.Rows r) = rows_in r
keys_in (keys.Paths p) = paths_in p

abbrev pub AreKeys : Keys → Type 0
AreKeys (keys.Rows r) = AreRows r
AreKeys (keys.Paths p) = ArePaths p

-- each has so many nodes
abbrev pub IsWide : ℕ → Keys → Type 0
IsWide width (keys.Rows r) = width ≡ 1
IsWide width (keys.Paths p) = width ≡ length p.levels.items
