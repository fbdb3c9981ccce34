-- A list of which the first items are copied from elsewhere.
use Rattle.std.specs.Prelude.{◌≡◌, ℕ, nat_lt, Option, List, length, if◌then◌else◌}
use Rattle.gq_outer.specs.Rows.{item_at}

-- so many items are those, and the others are as they were
pub record Copies {X : Type 0} (from : ℕ → Option X) (count : ℕ) (old new : List (Option X)) : Type 0 where
  pub length_is : length new ≡ length old
  pub items : (v : ℕ) → item_at new v ≡ (if nat_lt v count then from v else item_at old v)
