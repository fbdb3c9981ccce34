-- Rows that are marked one after another.
use Rattle.std.proofs.Common.{◌≡◌, ℕ, zero, suc, ◌+◌, ◌-◌, ◌*◌, ◌/◌, ◌%◌, ◌<◌, ◌≤◌, ◌⊎◌, inl, inr, Bool, true, false, not, ◌&&◌, Option, Some, None, List, [], ◌∷◌, length, get_or, slice_get, refl, sym, ap, ap₂, ◌∙◌, subst, arith}
use Rattle.std.specs.Prelude.{All, IfSome, min}
use Rattle.std.proofs.lemmas.Bool.{cases_lt}
use Rattle.gq_base.specs.Plain.{Graph}
use Rattle.gq_base.specs.declared.direction.Direction.{Direction}
use Rattle.gq_bits.specs.Places.{is_marked}
use Rattle.gq_bits.specs.declared.TheConstants.{VECTOR}
use Rattle.gq_masks.specs.Masks.{AreReached, IsPart, RowsReached, marked_in, may_have, next_end}
use Rattle.gq_masks.specs.steps.Told.{IsTold}
use Rattle.gq_store.specs.Neighbours.{neighbours}

-- what was marked stays so
pub record StaysMarked (old now : List (List Bool)) : Type 0 where
  pub each : (k : ℕ) → may_have old k ≡ true → may_have now k ≡ true

pub stays : (pieces : List (List Bool)) → StaysMarked pieces pieces
stays pieces = record { each = λ k h. h }

pub stays_then : (old now next : List (List Bool)) → StaysMarked old now → ((k : ℕ) → may_have now k ≡ true → may_have next k ≡ true) → StaysMarked old next
stays_then old now next h more = record { each = λ k m. more k (h.each k m) }

-- the first rows of a list are marked
pub record HaveMarks (rows : List ℕ) (n : ℕ) (pieces : List (List Bool)) : Type 0 where
  pub each : (k : ℕ) → k < n → may_have pieces (get_or rows k 0) ≡ true

pub none_marked : (rows : List ℕ) (pieces : List (List Bool)) → HaveMarks rows 0 pieces
none_marked rows pieces = record { each = λ k low. absurd (omega (arith, low)) }

pub one_marked : (rows : List ℕ) (n : ℕ) (now next : List (List Bool)) (row : ℕ) → HaveMarks rows n now → row ≡ get_or rows n 0
    → may_have next row ≡ true → ((k : ℕ) → may_have now k ≡ true → may_have next k ≡ true) → HaveMarks rows (n + 1) next
one_marked rows n now next row h is own others = record { each = λ k low. go k (cases_lt k n) low }
  where
    go : (k : ℕ) → (k < n) ⊎ (n ≤ k) → k < n + 1 → may_have next (get_or rows k 0) ≡ true
    go k (inl less) low = others (get_or rows k 0) (h.each k less)
    go k (inr more) low = (let same : n ≡ k = omega (arith, more, low) in subst (λ i. may_have next (get_or rows i 0) ≡ true) same (ap (may_have next) (sym is) ∙ own))

-- all rows of a list are marked
abbrev pub AllMarked : List (List Bool) → List ℕ → Type 0
AllMarked pieces rows = All (λ row. may_have pieces row ≡ true) rows

pub all_stay : (old now : List (List Bool)) (rows : List ℕ) → ((k : ℕ) → may_have old k ≡ true → may_have now k ≡ true) → AllMarked old rows → AllMarked now rows
all_stay old now rows more all = λ i d low. more _ (all i d low)

-- the only row of a list is marked
pub only_marked : (pieces : List (List Bool)) (rows : List ℕ) (found : Option ℕ) → length rows ≤ 1 → found ≡ slice_get rows 0 → IfSome found (λ r. may_have pieces r ≡ true) → AllMarked pieces rows
only_marked pieces [] found few is own = λ i d low. absurd (omega (arith, low))
only_marked pieces (r ∷ rows) found few is own = λ i d low. go i d (omega (arith, low, few)) low
  where
    there : may_have pieces r ≡ true
    there = subst (λ o. IfSome o (λ q. may_have pieces q ≡ true)) is own

    go : (i : ℕ) (d : ℕ) → i < 1 → i < length (r ∷ rows) → may_have pieces (get_or (r ∷ rows) i d) ≡ true
    go zero d one low = there
    go (suc i) d one low = absurd (omega (arith, one))

-- of the first rows from one on, those that relationships lead to from marked ones are marked
pub record HavePart (g : Graph) (table : ℕ) (direction : Direction) (low n : ℕ) (chosen : List Bool) (pieces : List (List Bool)) : Type 0 where
  pub each : (k : ℕ) → k < n → is_marked chosen k ≡ true → AllMarked pieces (neighbours g table direction (low + k))

pub no_part : (g : Graph) (table : ℕ) (direction : Direction) (low : ℕ) (chosen : List Bool) (pieces : List (List Bool)) → HavePart g table direction low 0 chosen pieces
no_part g table direction low chosen pieces = record { each = λ k less. absurd (omega (arith, less)) }

pub more_part : (g : Graph) (table : ℕ) (direction : Direction) (low n : ℕ) (chosen : List Bool) (now next : List (List Bool)) → HavePart g table direction low n chosen now
    → ((k : ℕ) → may_have now k ≡ true → may_have next k ≡ true) → (is_marked chosen n ≡ true → AllMarked next (neighbours g table direction (low + n))) → HavePart g table direction low (n + 1) chosen next
more_part g table direction low n chosen now next h more own = record { each = λ k less m. go k (cases_lt k n) less m }
  where
    go : (k : ℕ) → (k < n) ⊎ (n ≤ k) → k < n + 1 → is_marked chosen k ≡ true → AllMarked next (neighbours g table direction (low + k))
    go k (inl less) under m = all_stay now next (neighbours g table direction (low + k)) more (h.each k less m)
    go k (inr over) under m = (let same : n ≡ k = omega (arith, over, under) in subst (λ i. AllMarked next (neighbours g table direction (low + i))) same (own (ap (is_marked chosen) same ∙ m)))

-- it is told of a piece more
pub reached_more : (g : Graph) (table : ℕ) (direction : Direction) (told end : ℕ) (old new : List (List Bool)) (all : ℕ → Bool) (chosen : List Bool)
    → AreReached (record { graph = g; table = table; direction = direction; told = told; marked = old }) all → IsPart all told end chosen
    → ((k : ℕ) → told + k < end → is_marked chosen k ≡ true → AllMarked new (neighbours g table direction (told + k))) → ((k : ℕ) → may_have old k ≡ true → may_have new k ≡ true)
    → AreReached (record { graph = g; table = table; direction = direction; told = end; marked = new }) all
reached_more g table direction told end old new all chosen before part own more = λ q low on. go q (cases_lt q told) low on
  where
    go : (q : ℕ) → (q < told) ⊎ (told ≤ q) → q < end → all q ≡ true → AllMarked new (neighbours g table direction q)
    go q (inl less) low on = all_stay old new (neighbours g table direction q) more (before q less on)
    go q (inr over) low on =
        (let at : told + (q - told) ≡ q = omega (arith, over) in
        let under : told + (q - told) < end = omega (arith, over, low) in
        subst (λ i. AllMarked new (neighbours g table direction i)) at
        (own (q - told) under (part (q - told) under (ap all at ∙ on))))

pub reached_still : (g : Graph) (table : ℕ) (direction : Direction) (told : ℕ) (old new : List (List Bool)) (all : ℕ → Bool)
    → AreReached (record { graph = g; table = table; direction = direction; told = told; marked = old }) all → ((k : ℕ) → may_have old k ≡ true → may_have new k ≡ true)
    → AreReached (record { graph = g; table = table; direction = direction; told = told; marked = new }) all
reached_still g table direction told old new all before more = λ q low on. all_stay old new (neighbours g table direction q) more (before q low on)

-- a place of a piece as a row
at_piece : (pieces : List (List Bool)) (piece k : ℕ) (o : Option (List Bool)) → o ≡ slice_get pieces piece → k < VECTOR → may_have pieces (VECTOR * piece + k) ≡ marked_in o k
at_piece pieces piece k o is low =
    let number : (VECTOR * piece + k) / VECTOR ≡ piece = omega (arith, low) in
    let place : (VECTOR * piece + k) % VECTOR ≡ k = omega (arith, low) in
    ap₂ (λ n p. marked_in (slice_get pieces n) p) number place ∙ ap (λ x. marked_in x k) (sym is)

-- what is marked of a piece
pub kept_some : (pieces : List (List Bool)) (piece k : ℕ) (own : List Bool) → Some own ≡ slice_get pieces piece → k < VECTOR → is_marked own k ≡ may_have pieces (VECTOR * piece + k)
kept_some pieces piece k own is low = sym (at_piece pieces piece k (Some own) is low)

pub kept_all : (pieces : List (List Bool)) (piece k : ℕ) (b : Bool) → None ≡ slice_get pieces piece → k < VECTOR → b ≡ (b && may_have pieces (VECTOR * piece + k))
kept_all pieces piece k b is low = go b ∙ ap (λ c. b && c) (sym (at_piece pieces piece k None is low))
  where
    go : (b : Bool) → b ≡ (b && true)
    go true = refl
    go false = refl
