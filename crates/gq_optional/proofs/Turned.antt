-- A list whose item at a place is changed, and then those behind it.
use Rattle.std.proofs.Common.{◌≡◌, ℕ, zero, suc, ◌+◌, ◌<◌, List, [], ◌∷◌, ◌++◌, ◌∙◌, drop, take, length, refl, sym, ap, subst, arith}
use Rattle.std.specs.Prelude.{slice_set}

next : (i : ℕ) → suc i ≡ i + 1
next i = omega arith

set_behind : {X : Type 0} (xs : List X) (i : ℕ) (x : X) → drop (suc i) (slice_set xs i x) ≡ drop (suc i) xs
set_behind [] i x = refl
set_behind (y ∷ ys) zero x = refl
set_behind (y ∷ ys) (suc i) x = set_behind ys i x

pub drop_set_more : {X : Type 0} (xs : List X) (i : ℕ) (x : X) → drop (i + 1) (slice_set xs i x) ≡ drop (i + 1) xs
drop_set_more xs i x = subst (λ k. drop k (slice_set xs i x) ≡ drop k xs) (next i) (set_behind xs i x)

turned : {X : Type 0} (old new : List X) (i : ℕ) (x : X) → i < length old → take (suc i) new ≡ take (suc i) (slice_set old i x) → drop i new ≡ x ∷ drop (suc i) new
turned [] new i x low e = absurd (omega (arith, low))
turned (y ∷ ys) [] zero x low e = absurd (omega (arith, ap length e))
turned (y ∷ ys) (z ∷ zs) zero x low e = ap (λ l. l ++ zs) e
turned (y ∷ ys) [] (suc i) x low e = absurd (omega (arith, ap length e))
turned (y ∷ ys) (z ∷ zs) (suc i) x low e = turned ys zs i x (omega (arith, low)) (ap (drop 1) e)

-- what was put there stays where no more than those behind it change
pub drop_turned : {X : Type 0} (old new : List X) (i : ℕ) (x : X) → i < length old → take (i + 1) new ≡ take (i + 1) (slice_set old i x) → drop i new ≡ x ∷ drop (i + 1) new
drop_turned old new i x low e =
    turned old new i x low (subst (λ k. take k new ≡ take k (slice_set old i x)) (sym (next i)) e) ∙ ap (λ k. x ∷ drop k new) (next i)
