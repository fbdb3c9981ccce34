-- When a count of faults or misses rose, and the answers that need it (this project's profile).
use Rattle.std.specs.Prelude.{◌≡◌, ℕ, ◌+◌, ◌-◌, ◌^◌, ◌≤◌, min, Result, OnOk, OnErr, Bool, true, false, IfOk}

-- a count of 64 bits rose, or stands at its last value
abbrev pub Rose : ℕ → ℕ → Type 0
Rose before now = min (before + 1) (2 ^ 64 - 1) ≤ now

-- the count of faults did not fall: an `Ok` leaves it as it was, and an `Err` comes only where it rose
pub record HasCause {T E : Type 0} (before now : ℕ) (result : Result T E) : Type 0 where
  pub later : before ≤ now
  pub kept : OnOk result (now ≡ before)
  pub failed : OnErr result (Rose before now)

-- a name that was not found raised the count
abbrev pub RoseUnless : Bool → ℕ → ℕ → Type 0
RoseUnless true before now = Unit {0}
RoseUnless false before now = Rose before now

-- the count of misses did not fall, and `Ok(false)` comes only where it rose
pub record HasMiss {E : Type 0} (before now : ℕ) (result : Result Bool E) : Type 0 where
  pub later : before ≤ now
  pub missed : IfOk result (λ found. RoseUnless found before now)
