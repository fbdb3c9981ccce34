-- Counts over several calls.
use Rattle.std.proofs.Common.{◌≡◌, ℕ, ◌≤◌, arith, subst}
use Rattle.gq_io.specs.Causes.{Rose}

pub Rose-later : (a b c : ℕ) → a ≤ b → Rose b c → Rose a c
Rose-later a b c h r = omega arith

pub Rose-since : (a b c : ℕ) → b ≡ a → Rose b c → Rose a c
Rose-since a b c same rose = subst (λ l. Rose l c) same rose

pub Rose-stays : (a b c : ℕ) → Rose a b → b ≤ c → Rose a c
Rose-stays a b c r h = omega arith
