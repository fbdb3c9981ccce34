-- A number of one of two lists is a number of both together.
use Rattle.std.proofs.Common.{◌≡◌, ℕ, Bool, true, false, ◌||◌, nat_eq, List, [], ◌∷◌, ◌++◌, refl}
use Rattle.std.proofs.lemmas.Bool.{or_right}
use Rattle.gq_plan.specs.Soundness.{has_number}

pub in_first : (js ks : List ℕ) (j : ℕ) → has_number js j ≡ true → has_number (js ++ ks) j ≡ true
in_first [] ks j h = (let e : false ≡ true = h in cc)
in_first (n ∷ js) ks j h = elim_or (nat_eq j n) (has_number js j) (has_number (js ++ ks) j) h (in_first js ks j)
  where
    elim_or : (a b c : Bool) → (a || b) ≡ true → (b ≡ true → c ≡ true) → (a || c) ≡ true
    elim_or true b c h f = refl
    elim_or false b c h f = f h

pub in_second : (js ks : List ℕ) (j : ℕ) → has_number ks j ≡ true → has_number (js ++ ks) j ≡ true
in_second [] ks j h = h
in_second (n ∷ js) ks j h = or_right (nat_eq j n) (has_number (js ++ ks) j) (in_second js ks j h)
