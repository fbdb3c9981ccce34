-- What the cells of a column are read from is what they are to have, also while the column is written.
use Rattle.std.proofs.Common.{◌≡◌, ◌≢◌, ℕ, Option, None, Some, refl, sym, ap, subst}
use Rattle.std.specs.Prelude.{nat_lt, slice_index, slice_index_or, if◌then◌else◌, pos}
use Rattle.gq_group.specs.Chunks.{IsRow, row_in}
use Rattle.gq_join.specs.Kept.{Held}
use Rattle.gq_pool.specs.Pool.{Pool, IsOut, cell_at, cells_of}
use Rattle.gq_store.specs.Neighbours.{neighbours}
use Rattle.gq_pipe.specs.steps.Cells.{CanKeep, kept_row}
use Rattle.gq_pipe.specs.steps.Origins.{CanKeepAt, CanRead, IsNear, kept_at, near_at, place_in, row_from}
use Rattle.gq_pipe.specs.declared.origins.Near.{Near}
use Rattle.gq_pipe.specs.declared.origins.Near.TheVariants as near
use Rattle.gq_pipe.specs.declared.origins.Origin.{Origin}
use Rattle.gq_pipe.specs.declared.origins.Origin.TheVariants.{Led, Kept}

-- ---- a build

pub kept_is : (o : Option Held) (i : Option ℕ) (v : ℕ) → kept_at o i (place_in o v) ≡ kept_row o i v
kept_is None i v = refl
kept_is (Some b) None v = refl
kept_is (Some b) (Some r) v = refl

pub can_keep : (o : Option Held) (i : Option ℕ) (v : ℕ) → CanKeep o i v → CanKeepAt o i (place_in o v)
can_keep None i v can = tt
can_keep (Some b) None v can = tt
can_keep (Some b) (Some r) v can = can

-- ---- while a column is written

module _ (old new : Pool) (written : ℕ) (others : (s : ℕ) → s ≢ written → cells_of new s ≡ cells_of old s) (still : (s : ℕ) → IsOut old s → IsOut new s) where
  cell_still : (s p : ℕ) → s ≢ written → cell_at new s p ≡ cell_at old s p
  cell_still s p other = ap (λ l. slice_index_or l p (pos 0)) (others s other)

  near_still : (s : Near) (p : ℕ) → IsNear s old written p → near_at s new p ≡ near_at s old p
  near_still (near.Row row) p is = refl
  near_still (near.Items piece) p is = refl
  near_still (near.Column slot) p is = ap row_in (cell_still slot.now p is.0)

  is_near_still : (s : Near) (p : ℕ) → IsNear s old written p → IsNear s new written p
  is_near_still (near.Row row) p is = tt
  is_near_still (near.Items piece) p is = tt
  is_near_still (near.Column slot) p is = (is.0, still slot.now is.1, subst IsRow (sym (cell_still slot.now p is.0)) is.2)

  pub row_still : (s : Origin) (p : ℕ) → CanRead s old written p → row_from s new p ≡ row_from s old p
  row_still (Led s) p can = ap (λ n. if nat_lt n s.count then slice_index (neighbours s.graph.now s.table s.direction n) 0 else 0) (near_still s.near p can.1)
  row_still (Kept s) p can = refl

  pub can_still : (s : Origin) (p : ℕ) → CanRead s old written p → CanRead s new written p
  can_still (Led s) p can = (can.0, is_near_still s.near p can.1)
  can_still (Kept s) p can = can
