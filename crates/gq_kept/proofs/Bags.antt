-- How many rows are kept of a listing hangs on its outcomes alone, and not on their order.
use Rattle.std.proofs.Common.{◌≡◌, ℕ, zero, suc, ◌+◌, ◌<◌, Bool, true, false, List, [], ◌∷◌, ◌++◌, length, get_or, refl, sym, ap, ap₂, ◌∙◌, subst, arith}
use Rattle.std.specs.Prelude.{◌||◌, ◌&&◌, not, if◌then◌else◌}
use Rattle.std.specs.Cmp.{IsEquivalence}
use Rattle.std.specs.List.{list_any, swap}
use Rattle.std.specs.List.Sorted.{IsPermutation}
use Rattle.std.proofs.Math.ListN.{set}
use Rattle.std.proofs.lemmas.Cmp.{eq_by_cmp_equiv, lists_equiv, on_equiv}
use Rattle.std.proofs.Math.Bool.{or_assoc, or_comm}
use Rattle.std.proofs.lemmas.List.{length-append}
use Rattle.std.proofs.lemmas.List.Edits.{swap_is}
use Rattle.std.proofs.lemmas.List.Folds.{list_any-append}
use Rattle.std.proofs.lemmas.List.Sorted.{IsPermutation-keeps, length_permutation}
use Rattle.gq_base.specs.ValueLaws.{order_vals_total}
use Rattle.gq_plan.specs.Outcomes.{Row}
use Rattle.gq_plan.specs.declared.bound.Bound.{Bound}
use Rattle.gq_kept.specs.Answers.{at_most, classes, classes_behind, kept, most_listed, same_row, with_class}

-- ---- a function of a list that does not mind an exchange of neighbours

module _ {S X V : Type 0} (step : S → X → S) (run : S → List X → V) (goes : (s : S) (x : X) (xs : List X) → run s (x ∷ xs) ≡ run (step s x) xs)
    (exchange : (s : S) (x y : X) (xs : List X) → run s (x ∷ y ∷ xs) ≡ run s (y ∷ x ∷ xs)) where
  behind : (s : S) (x : X) (xs ys : List X) → ((t : S) → run t xs ≡ run t ys) → run s (x ∷ xs) ≡ run s (x ∷ ys)
  behind s x xs ys same = goes s x xs ∙ same (step s x) ∙ sym (goes s x ys)

  later_changed : (d x : X) (l : List X) (j : ℕ) → j < length l → (s : S) → run s (x ∷ l) ≡ run s (get_or l j d ∷ set l j x)
  later_changed d x [] j low s = absurd (omega arith)
  later_changed d x (y ∷ l) zero low s = exchange s x y l
  later_changed d x (y ∷ l) (suc j) low s =
      exchange s x y l ∙ behind s y (x ∷ l) (get_or l j d ∷ set l j x) (later_changed d x l j (omega arith)) ∙ exchange s y (get_or l j d) (set l j x)

  two_changed : (d : X) (l : List X) (i j : ℕ) → i < length l → j < length l → (s : S) → run s l ≡ run s (set (set l i (get_or l j d)) j (get_or l i d))
  two_changed d [] i j p q s = absurd (omega arith)
  two_changed d (x ∷ l) zero zero p q s = refl
  two_changed d (x ∷ l) zero (suc j) p q s = later_changed d x l j (omega arith) s
  two_changed d (x ∷ l) (suc i) zero p q s = later_changed d x l i (omega arith) s
  two_changed d (x ∷ l) (suc i) (suc j) p q s = behind s x l (set (set l i (get_or l j d)) j (get_or l i d)) (two_changed d l i j (omega arith) (omega arith))

  swapped : (l : List X) (i j : ℕ) → i < length l → j < length l → (s : S) → run s l ≡ run s (swap l i j)
  swapped [] i j p q s = absurd (omega arith)
  swapped (d ∷ l) i j p q s = two_changed d (d ∷ l) i j p q s ∙ ap (run s) (swap_is (d ∷ l) i j d p q)

  bag : (s : S) (xs ys : List X) → IsPermutation xs ys → run s xs ≡ run s ys
  bag s xs ys same = IsPermutation-keeps xs (λ l. run s xs ≡ run s l) refl (λ l i j p q h. h ∙ swapped l i j p q s) ys same

-- ---- the classes of rows

same_row_equiv : IsEquivalence same_row
same_row_equiv = on_equiv (λ (r : Row). r.columns) (lists_equiv (eq_by_cmp_equiv order_vals_total))

-- two lists of first rows are as long, and know the same rows
record Alike (seen other : List Row) : Type 0 where
  pub long : length seen ≡ length other
  pub knows : (r : Row) → list_any (same_row r) seen ≡ list_any (same_row r) other

any_push : (r x : Row) (seen : List Row) → list_any (same_row r) (seen ++ x ∷ []) ≡ (list_any (same_row r) seen || same_row r x)
any_push r x seen = list_any-append (same_row r) seen (x ∷ []) ∙ ap (λ b. list_any (same_row r) seen || b) (or_comm (same_row r x) false)

push_long : (x : Row) (seen : List Row) → length (seen ++ x ∷ []) ≡ length seen + 1
push_long x seen = length-append seen (x ∷ [])

itself : (seen : List Row) → Alike seen seen
itself seen = record { long = refl; knows = λ r. refl }

alike_push : (seen other : List Row) (x : Row) → Alike seen other → Alike (seen ++ x ∷ []) (other ++ x ∷ [])
alike_push seen other x a = record {
  long = push_long x seen ∙ ap (λ n. n + 1) a.long ∙ sym (push_long x other);
  knows = λ r. any_push r x seen ∙ ap (λ b. b || same_row r x) (a.knows r) ∙ sym (any_push r x other);
}

alike_class : (seen other : List Row) (x : Row) → Alike seen other → Alike (with_class seen x) (with_class other x)
alike_class seen other x a = subst (λ b. Alike (with_class seen x) (if b then other else other ++ x ∷ [])) (a.knows x) (by (list_any (same_row x) seen))
  where
    by : (b : Bool) → Alike (if b then seen else seen ++ x ∷ []) (if b then other else other ++ x ∷ [])
    by true = a
    by false = alike_push seen other x a

alike_many : (rows seen other : List Row) → Alike seen other → length (classes_behind seen rows) ≡ length (classes_behind other rows)
alike_many [] seen other a = a.long
alike_many (r ∷ rows) seen other a = alike_many rows (with_class seen r) (with_class other r) (alike_class seen other r a)

-- ---- two rows, in either order

module _ (seen : List Row) (x y : Row) where
  abbrev Pushed : Row → List Row
  Pushed r = seen ++ r ∷ []

  -- two rows that are the same stand for one another
  alike_same : same_row x y ≡ true → Alike (Pushed x) (Pushed y)
  alike_same same = record {
    long = push_long x seen ∙ sym (push_long y seen);
    knows = λ r. any_push r x seen
        ∙ ap (λ b. list_any (same_row r) seen || b) (same_row_equiv.symm r x ∙ same_row_equiv.congr x y r same ∙ same_row_equiv.symm y r)
        ∙ sym (any_push r y seen);
  }

  -- two that are not are both added
  alike_both : Alike (Pushed x ++ y ∷ []) (Pushed y ++ x ∷ [])
  alike_both = record {
    long = push_long y (Pushed x) ∙ ap (λ n. n + 1) (push_long x seen ∙ sym (push_long y seen)) ∙ sym (push_long x (Pushed y));
    knows = λ r. any_push r y (Pushed x) ∙ ap (λ b. b || same_row r y) (any_push r x seen)
        ∙ turned (list_any (same_row r) seen) (same_row r x) (same_row r y)
        ∙ ap (λ b. b || same_row r x) (sym (any_push r y seen)) ∙ sym (any_push r x (Pushed y));
  }
    where
      turned : (a b c : Bool) → (a || b || c) ≡ (a || c || b)
      turned a b c = or_assoc a b c ∙ ap (λ d. a || d) (or_comm b c) ∙ sym (or_assoc a c b)

-- the first rows where one comes, and then the other: whether the second is known behind the first hangs on both
abbrev both : List Row → Row → Row → Bool → Bool → List Row
both seen x y known again = if again then (if known then seen else seen ++ x ∷ []) else (if known then seen else seen ++ x ∷ []) ++ y ∷ []

alike_both_by : (seen : List Row) (x y : Row) (a b c : Bool) → same_row x y ≡ c → Alike (both seen x y a (b || (not a && c))) (both seen y x b (a || (not b && c)))
alike_both_by seen x y true true c e = itself seen
alike_both_by seen x y true false c e = itself (seen ++ y ∷ [])
alike_both_by seen x y false true c e = itself (seen ++ x ∷ [])
alike_both_by seen x y false false true e = alike_same seen x y e
alike_both_by seen x y false false false e = alike_both seen x y

known_behind : (seen : List Row) (x y : Row) (a : Bool)
    → list_any (same_row y) (if a then seen else seen ++ x ∷ []) ≡ (list_any (same_row y) seen || (not a && same_row x y))
known_behind seen x y true = or_comm false (list_any (same_row y) seen)
known_behind seen x y false = any_push y x seen ∙ ap (λ b. list_any (same_row y) seen || b) (same_row_equiv.symm y x)

alike_exchanged : (seen : List Row) (x y : Row) → Alike (with_class (with_class seen x) y) (with_class (with_class seen y) x)
alike_exchanged seen x y =
    let a = list_any (same_row x) seen in
    let b = list_any (same_row y) seen in
    let one = known_behind seen x y a in
    let other = known_behind seen y x b ∙ ap (λ c. a || (not b && c)) (same_row_equiv.symm y x) in
    subst (λ k. Alike (with_class (with_class seen x) y) (both seen y x b k)) (sym other)
    (subst (λ k. Alike (both seen x y a k) (both seen y x b (a || (not b && same_row x y)))) (sym one)
    (alike_both_by seen x y a b (same_row x y) refl))

classes_bag : (xs ys : List Row) → IsPermutation xs ys → length (classes xs) ≡ length (classes ys)
classes_bag = bag with_class (λ seen rows. length (classes_behind seen rows)) (λ seen x xs. refl)
    (λ seen x y rows. alike_many rows (with_class (with_class seen x) y) (with_class (with_class seen y) x) (alike_exchanged seen x y)) []

pub kept_bag : (b : Bound) (xs ys : List Row) → IsPermutation xs ys → kept b xs ≡ kept b ys
kept_bag b xs ys same =
    ap₂ (λ m n. if b.distinct then m else at_most (most_listed b) n) (classes_bag xs ys same) (sym (length_permutation xs ys same))
