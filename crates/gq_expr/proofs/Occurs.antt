-- A search for a part finds a place exactly where the text has the part.
use Rattle.std.proofs.Common.{◌≡◌, ◌∙◌, sym, refl, ap, ℕ, zero, suc, ◌+◌, ◌-◌, ◌≤◌, List, [], ◌∷◌, ◌++◌, length, drop, take, Option, Some, None, Bool, true, false, ◌||◌, nat_eq, arith, length-append, length-drop, ⊎_elim}
use Rattle.std.specs.List.{starts_with}
use Rattle.std.specs.Option.{is_some}
use Rattle.std.proofs.Math.Bool.{or-true}
use Rattle.std.proofs.Math.Seq.{take-append_seam}
use Rattle.std.proofs.lemmas.Bool.{cases_Bool}
use Rattle.std.proofs.lemmas.Bool.Decides.{Decides-eqb}
use Rattle.std.proofs.lemmas.Slice.Eq.{starts_is}
use Rattle.memchr.specs.Find.{FindsNeedle, OccursAt}
use Rattle.memchr.proofs.lemmas.MatchLemmas.{OccursAt-split, OccursAt-from_part}
use Rattle.gq_expr.specs.Operators.{occurs}

-- a place of a text where a part stands
record Stands (s p : List ℕ) : Type 0 where
  at : ℕ
  rest : List ℕ
  within : at ≤ length s
  split : drop at s ≡ p ++ rest

starts_true : (s p rest : List ℕ) → s ≡ p ++ rest → starts_with nat_eq s p ≡ true
starts_true s p rest e = (starts_is Decides-eqb s p (starts_with nat_eq s p) refl).1 rest e

starts_split : (s p : List ℕ) → starts_with nat_eq s p ≡ true → s ≡ p ++ drop (length p) s
starts_split s p e = (starts_is Decides-eqb s p (starts_with nat_eq s p) refl).0 e

or_left : (a b : Bool) → a ≡ true → (a || b) ≡ true
or_left a b e = ap (λ x. x || b) e

or_right : (a b : Bool) → b ≡ true → (a || b) ≡ true
or_right a b e = ap (λ x. a || x) e ∙ or-true a

or_rest : (a b : Bool) → a ≡ false → (a || b) ≡ true → b ≡ true
or_rest a b e h = sym (ap (λ x. x || b) e) ∙ h

occurs_split : (s p rest : List ℕ) (k : ℕ) → drop k s ≡ p ++ rest → occurs s p ≡ true
occurs_split [] p rest zero e = starts_true [] p rest e
occurs_split [] p rest (suc k) e = starts_true [] p rest e
occurs_split (b ∷ s) p rest zero e = or_left _ (occurs s p) (starts_true (b ∷ s) p rest e)
occurs_split (b ∷ s) p rest (suc k) e = or_right (starts_with nat_eq (b ∷ s) p) _ (occurs_split s p rest k e)

stands_first : (s p : List ℕ) → starts_with nat_eq s p ≡ true → Stands s p
stands_first s p e = record { at = 0; rest = drop (length p) s; within = omega arith; split = starts_split s p e }

stands_later : (b : ℕ) (s p : List ℕ) → Stands s p → Stands (b ∷ s) p
stands_later b s p h = record { at = suc h.at; rest = h.rest; within = omega (arith, h.within); split = h.split }

occurs_stands : (s p : List ℕ) → occurs s p ≡ true → Stands s p
occurs_stands [] p e = stands_first [] p e
occurs_stands (b ∷ s) p e =
    ⊎_elim (λ first. stands_first (b ∷ s) p first) (λ later. stands_later b s p (occurs_stands s p (or_rest _ (occurs s p) later e))) (cases_Bool (starts_with nat_eq (b ∷ s) p))

occurs_at : (s p : List ℕ) (h : Stands s p) → OccursAt s p h.at
occurs_at s p h =
    let long : length s - h.at ≡ length p + length h.rest = sym (length-drop h.at s) ∙ ap length h.split ∙ length-append p h.rest in
    OccursAt-from_part s p h.at (omega (arith, h.within)) (ap (take (length p)) h.split ∙ take-append_seam p h.rest)

pub found_is : (s p : List ℕ) (r : Option ℕ) → FindsNeedle s p 0 r → is_some r ≡ occurs s p
found_is s p (Some k) h = sym (occurs_split s p _ k (OccursAt-split s p k h.1))
found_is s p None h =
    ⊎_elim (λ yes. let place = occurs_stands s p yes in absurd (h place.at (omega arith) (omega (arith, place.within)) (occurs_at s p place))) (λ no. sym no) (cases_Bool (occurs s p))
