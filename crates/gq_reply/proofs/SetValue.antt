-- The value of a parameter that was set.
use Rattle.std.proofs.Common.{◌≡◌, ℕ, suc, ◌+◌, Bool, true, false, List, [], ◌∷◌, length, Some, nat_eq, nat_lt, refl, ap, ◌∙◌, arith}
use Rattle.std.proofs.lemmas.Bool.{le-ltb, lt-ltb, ltb-false, ltb-true}
use Rattle.std.proofs.lemmas.Cmp.{nat_list_eq_equiv}
use Rattle.std.specs.Cmp.Lexicographic.{pointwise}
use Rattle.std.specs.List.{position_or_len}
use Rattle.gq_base.specs.declared.literal.Literal.{Literal}
use Rattle.gq_tokens.specs.Parameters.{value_of, with_value}
use Rattle.gq_tokens.specs.Words.{Name}
use Rattle.gq_tokens.specs.declared.params.Param.{Param}

one : (n : ℕ) → 1 + n ≡ suc n
one n = omega arith

some : (m : ℕ) → nat_lt 0 (suc m) ≡ true
some m = lt-ltb 0 (suc m) (omega arith)

more : (k m : ℕ) (b : Bool) → nat_lt k m ≡ b → nat_lt (suc k) (suc m) ≡ b
more k m true e = lt-ltb (suc k) (suc m) (omega (arith, ltb-true k m e))
more k m false e = le-ltb (suc k) (suc m) (omega (arith, ltb-false k m e))

module _ (name : Name) (value : Literal) where
  abbrev named : Param → Bool
  named p = pointwise nat_eq p.name name

  abbrev place : List Param → ℕ
  place ps = position_or_len named ps

  abbrev new : Param
  new = record { name = name; value = value }

  -- ---- the first parameter has the name, or it has not

  value_here : (p : Param) (ps : List Param) → named p ≡ true → value_of (p ∷ ps) name ≡ Some p.value
  value_here p ps e = rw (e, some (length ps)) refl

  with_here : (p : Param) (ps : List Param) → named p ≡ true → with_value name value (p ∷ ps) ≡ new ∷ ps
  with_here p ps e = rw (e, some (length ps)) refl

  value_later : (p : Param) (ps : List Param) → named p ≡ false → value_of (p ∷ ps) name ≡ value_of ps name
  value_later p ps e = by (nat_lt (place ps) (length ps)) refl where
    by : (b : Bool) → nat_lt (place ps) (length ps) ≡ b → value_of (p ∷ ps) name ≡ value_of ps name
    by true f = rw (e, one (place ps), more (place ps) (length ps) true f, f) refl
    by false f = rw (e, one (place ps), more (place ps) (length ps) false f, f) refl

  with_later : (p : Param) (ps : List Param) → named p ≡ false → with_value name value (p ∷ ps) ≡ p ∷ with_value name value ps
  with_later p ps e = by (nat_lt (place ps) (length ps)) refl where
    by : (b : Bool) → nat_lt (place ps) (length ps) ≡ b → with_value name value (p ∷ ps) ≡ p ∷ with_value name value ps
    by true f = rw (e, one (place ps), more (place ps) (length ps) true f, f) refl
    by false f = rw (e, one (place ps), more (place ps) (length ps) false f, f) refl

  -- ---- a parameter that was set has its value

  itself : named new ≡ true
  itself = nat_list_eq_equiv.refl name

  step : (b : Bool) (p : Param) (ps : List Param) → named p ≡ b → value_of (with_value name value ps) name ≡ Some value → value_of (with_value name value (p ∷ ps)) name ≡ Some value
  step true p ps e h = ap (λ all. value_of all name) (with_here p ps e) ∙ value_here new ps itself
  step false p ps e h = ap (λ all. value_of all name) (with_later p ps e) ∙ value_later p (with_value name value ps) e ∙ h

  value_set : (ps : List Param) → value_of (with_value name value ps) name ≡ Some value
  value_set [] = value_here new [] itself
  value_set (p ∷ ps) = step (named p) p ps refl (value_set ps)

-- the same by other names of the name and of the parameters
pub value_got : (params all : List Param) (name key text : Name) (value : Literal) → key ≡ name → text ≡ name → all ≡ with_value key value params → value_of all text ≡ Some value
value_got params all name key text value same there is =
    ap (λ n. value_of all n) there ∙ ap (λ ps. value_of ps name) (is ∙ ap (λ n. with_value n value params) same) ∙ value_set name value params
