-- What the cells of a column are read from.
use Rattle.std.specs.Prelude.{◌≡◌, ◌≢◌, ◌<◌, ℕ, nat_lt, if◌then◌else◌, false, Option, Some, None, length, slice_get, slice_index}
use Rattle.std.specs.Option.{option_copied}
use Rattle.gq_group.specs.Chunks.{IsRow, row_in}
use Rattle.gq_group.specs.Pieces.{items_of}
use Rattle.gq_join.specs.Kept.{Held, place_of, row_at}
use Rattle.gq_pool.specs.Pool.{Pool, IsOut, cell_at}
use Rattle.gq_store.specs.Neighbours.{is_listed, near_rows, neighbours}
use Rattle.gq_pipe.specs.declared.origins.LedRows.{LedRows}
use Rattle.gq_pipe.specs.declared.origins.Near.{Near}
use Rattle.gq_pipe.specs.declared.origins.Near.TheVariants as near
use Rattle.gq_pipe.specs.declared.origins.Origin.{Origin}
use Rattle.gq_pipe.specs.declared.origins.Origin.TheVariants.{Led, Kept}

-- the row at a position
abbrev pub near_at : Near → Pool → ℕ → ℕ
near_at (near.Row row) q p = row
near_at (near.Items piece) q p = slice_index (items_of piece) p
near_at (near.Column slot) q p = row_in (cell_at q slot.now p)

-- the number at a place of a row of a build, if there are both
abbrev pub kept_at : Option Held → Option ℕ → ℕ → ℕ
kept_at None i place = 0
kept_at (Some b) None place = 0
kept_at (Some b) (Some r) place = slice_index (row_at b r).nodes place

-- the place of a node variable in a build, if there is one
abbrev pub place_in : Option Held → ℕ → ℕ
place_in None v = 0
place_in (Some b) v = place_of b.nodes v

abbrev pub row_from : Origin → Pool → ℕ → ℕ
row_from (Led s) q p = if nat_lt (near_at s.near q p) s.count then slice_index (neighbours s.graph.now s.table s.direction (near_at s.near q p)) 0 else 0
row_from (Kept s) q p = kept_at (option_copied s.build) (slice_get (items_of s.rows) p) s.place

-- it can be read while a column is written
abbrev pub IsNear : Near → Pool → ℕ → ℕ → Type 0
IsNear (near.Row row) q written p = Unit {0}
IsNear (near.Items piece) q written p = Unit {0}
IsNear (near.Column slot) q written p = (slot.now ≢ written) × IsOut q slot.now × IsRow (cell_at q slot.now p)

abbrev pub CanKeepAt : Option Held → Option ℕ → ℕ → Type 0
CanKeepAt None i place = Unit {0}
CanKeepAt (Some b) None place = Unit {0}
CanKeepAt (Some b) (Some r) place = (r < length b.rows) × (place < length b.nodes)

-- single relationships are followed from so many rows
pub record CanLead (s : LedRows) : Type 0 where
  pub table : s.table < length s.graph.now.catalog.rels
  pub rows : near_rows s.graph.now s.table s.direction ≡ s.count
  pub single : is_listed s.graph.now s.table s.direction ≡ false

abbrev pub CanRead : Origin → Pool → ℕ → ℕ → Type 0
CanRead (Led s) q written p = CanLead s × IsNear s.near q written p
CanRead (Kept s) q written p = CanKeepAt (option_copied s.build) (slice_get (items_of s.rows) p) s.place
