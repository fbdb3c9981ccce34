use Rattle.std.proofs.Common.{◌≡◌, ◌+◌, ◌-◌, ◌<◌, ◌≤◌, ℕ, true, false}
use Rattle.gq_bits.specs.Places.{is_marked}
use Rattle.gq_ends.specs.steps.Tests.{HoldAll}
use Rattle.gq_ends.proofs.rows.kept_rows.Given as goal

abbrev pub invariant-tests : goal.invariant-tests
invariant-tests l = record {
  within : (k : ℕ) → l.high - l.low ≤ k → is_marked l.marks k ≡ false;
  kept : (k : ℕ) → k < l.high - l.low → HoldAll l.tests (l.low + k) → is_marked l.marks k ≡ true;
}
