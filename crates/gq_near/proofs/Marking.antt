-- Rows that are marked one after another.
use Rattle.std.proofs.Common.{◌≡◌, ℕ, suc, ◌+◌, ◌<◌, ◌≤◌, ◌⊎◌, inl, inr, Bool, true, false, not, eqb, Option, Some, List, [], ◌∷◌, get_or, refl, sym, ap, ◌∙◌, subst, arith}
use Rattle.std.specs.Prelude.{All}
use Rattle.std.proofs.lemmas.Bool.{cases_lt, eqb-true, false≢true}
use Rattle.gq_near.specs.Rows.{stands_in}
use Rattle.gq_near.specs.steps.Marked.{AreMarked, may_have}
use Rattle.gq_base.specs.Plain.{Graph}
use Rattle.gq_base.specs.declared.direction.Direction.{Direction}
use Rattle.gq_store.specs.Neighbours.{neighbours}

-- the first rows of a list are marked
pub record HaveMarks (rows : List ℕ) (n : ℕ) (pieces : List (List Bool)) : Type 0 where
  pub each : (k : ℕ) → k < n → may_have pieces (get_or rows k 0) ≡ true

pub none_marked : (rows : List ℕ) (pieces : List (List Bool)) → HaveMarks rows 0 pieces
none_marked rows pieces = record { each = λ k low. absurd (omega (arith, low)) }

pub one_marked : (rows : List ℕ) (n : ℕ) (now next : List (List Bool)) (row : ℕ) → HaveMarks rows n now → row ≡ get_or rows n 0
    → may_have next row ≡ true → ((k : ℕ) → may_have now k ≡ true → may_have next k ≡ true) → HaveMarks rows (n + 1) next
one_marked rows n now next row h is own others = record { each = λ k low. go k (cases_lt k n) low }
  where
    go : (k : ℕ) → (k < n) ⊎ (n ≤ k) → k < n + 1 → may_have next (get_or rows k 0) ≡ true
    go k (inl less) low = others (get_or rows k 0) (h.each k less)
    go k (inr more) low = (let same : n ≡ k = omega (arith, more, low) in subst (λ i. may_have next (get_or rows i 0) ≡ true) same (ap (may_have next) (sym is) ∙ own))

-- a row that is not marked stands in no list of which all rows are
pub unmarked : (pieces : List (List Bool)) (rows : List ℕ) (row : ℕ) → All (λ other. may_have pieces other ≡ true) rows → may_have pieces row ≡ false → stands_in rows row ≡ false
unmarked pieces [] row all off = refl
unmarked pieces (r ∷ rows) row all off = go (eqb r row) refl (unmarked pieces rows row (λ i d low. all (suc i) d (omega (arith, low))) off)
  where
    go : (b : Bool) → eqb r row ≡ b → stands_in rows row ≡ false → stands_in (r ∷ rows) row ≡ false
    go true e more = (let same : r ≡ row = eqb-true r row e in absurd (false≢true (sym off ∙ ap (may_have pieces) (sym same) ∙ all 0 0 (omega arith))))
    go false e more = rw e more

-- so it is no neighbour of a row whose neighbours are marked
pub lacked : (g : Graph) (table : ℕ) (direction : Direction) (from row : ℕ) (pieces : List (List Bool)) (list : List ℕ) (told : Bool) → list ≡ neighbours g table direction from → All (λ other. may_have pieces other ≡ true) list
    → told ≡ may_have pieces row → not told ≡ true → stands_in (neighbours g table direction from) row ≡ false
lacked g table direction from row pieces list told is all says off =
    subst (λ l. stands_in l row ≡ false) is (unmarked pieces list row all (sym says ∙ no told off))
  where
    no : (b : Bool) → not b ≡ true → b ≡ false
    no true h = cc
    no false h = refl

pub of_row : (g : Graph) (table : ℕ) (direction : Direction) (pieces : List (List Bool)) (of : Option ℕ) (from : ℕ) → AreMarked g table direction pieces of → of ≡ Some from
    → All (λ other. may_have pieces other ≡ true) (neighbours g table direction from)
of_row g table direction pieces of from marked is = subst (AreMarked g table direction pieces) is marked
