-- Cells of integers that come behind a bar.
use Rattle.std.specs.Prelude.{◌≡◌, ℤ, Bool, true, false, Option, Some, None, int_lt}

-- an integer is behind where it is greater, or less in the descending order; null is greatest
abbrev pub IsBehindInt : Bool → ℤ → Option ℤ → Type 0
IsBehindInt true bar None = ⊥
IsBehindInt true bar (Some z) = int_lt z bar ≡ true
IsBehindInt false bar None = Unit {0}
IsBehindInt false bar (Some z) = int_lt bar z ≡ true
