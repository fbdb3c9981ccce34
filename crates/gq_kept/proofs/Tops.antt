-- An answer from a part of the rows.
use Rattle.std.proofs.Common.{◌≡◌, ℕ, ◌+◌, ◌<◌, ◌≤◌, zero, suc, Bool, true, false, List, [], ◌∷◌, ◌++◌, length, take, drop, refl, sym, ap, ◌∙◌, subst, append-nil, arith, length-take, zero-add, inl, inr}
use Rattle.std.specs.Prelude.{if◌then◌else◌, ◌⊎◌, nat_le}
use Rattle.std.proofs.Math.Seq.{take-nil}
use Rattle.std.proofs.lemmas.List.{take_at}
use Rattle.std.proofs.lemmas.List.Sums.{count_by-le-length}
use Rattle.std.proofs.lemmas.List.Sorted.{IsPermutation-refl, IsPermutation-trans, IsPermutation-cons, IsPermutation-append_left, IsPermutation-append_right, IsPermutation-append_comm}
use Rattle.std.specs.declared.cmp.Ordering.{Ordering}
use Rattle.std.specs.Ordering.{is_le, ordering_reverse}
use Rattle.std.specs.declared.cmp.Ordering.TheVariants.{Less, Equal, Greater}
use Rattle.std.specs.Cmp.{IsTotalOrder}
use Rattle.std.specs.List.{count_by}
use Rattle.std.specs.List.Sorted.{IsPermutation}
use Rattle.std.specs.List.{AllByRecursion}
use Rattle.gq_kept.specs.Parts.{Part}
use Rattle.gq_kept.proofs.Rising.{Rises, each-map, each-both, each-drop, each-take, each-append, le-chain, count-front, upto_row, count-yes, count-no}
use Rattle.gq_kept.proofs.Fronts.{whole-cut}

-- an arrangement of all rows that has the window of the rows that are held
pub record IsArrangement {T : Type 0} (order : T → T → Ordering) (skip count : ℕ) (all held : List T) : Type 0 where
  pub arranged : List T
  pub same : IsPermutation all arranged
  pub rises : Rises order arranged
  pub is : take count (drop skip held) ≡ take count (drop skip arranged)

le_or_lt-by : (m n : ℕ) (b : Bool) → nat_le m n ≡ b → (m ≤ n) ⊎ (n < m)
le_or_lt-by m n true e = inl (grind (arith, e))
le_or_lt-by m n false e = inr (grind (arith, e))

le_or_lt : (m n : ℕ) → (m ≤ n) ⊎ (n < m)
le_or_lt m n = le_or_lt-by m n (nat_le m n) refl

-- the window of a list, cut first
suc-plus : (m n : ℕ) → suc m + n ≡ suc (m + n)
suc-plus m n = omega arith

pub cut-window : {T : Type 0} (skip count : ℕ) (xs : List T) → drop skip (take (skip + count) xs) ≡ take count (drop skip xs)
cut-window zero count xs = ap (λ n. take n xs) (zero-add count)
cut-window (suc skip) count [] = ap (λ n. drop (suc skip) (take n [])) (suc-plus skip count) ∙ sym (take-nil count)
cut-window (suc skip) count (x ∷ xs) = ap (λ n. drop (suc skip) (take n (x ∷ xs))) (suc-plus skip count) ∙ cut-window skip count xs

front-window : {T : Type 0} (skip count : ℕ) (xs more : List T) → skip + count ≤ length xs → take count (drop skip (take (skip + count) xs ++ more)) ≡ take count (drop skip xs)
front-window skip count xs more h =
    sym (cut-window skip count (take (skip + count) xs ++ more))
    ∙ ap (drop skip) (take_at (take (skip + count) xs) more (skip + count) (length-take (skip + count) xs ∙ omega (arith, h)))
    ∙ cut-window skip count xs

swapped : {T : Type 0} (x y : T) (xs : List T) → IsPermutation (x ∷ y ∷ xs) (y ∷ x ∷ xs)
swapped x y xs = IsPermutation-append_left xs (x ∷ y ∷ []) (y ∷ x ∷ []) (IsPermutation-append_comm (x ∷ []) (y ∷ []))

each-turn : {T : Type 0} (P : T → T → Type 0) (xs ys : List T) → AllByRecursion (λ y. AllByRecursion (λ x. P x y) xs) ys → AllByRecursion (λ x. AllByRecursion (λ y. P x y) ys) xs
each-turn P [] ys h = tt
each-turn P (x ∷ xs) ys h = (each-map (λ y. AllByRecursion (λ z. P z y) (x ∷ xs)) (λ y. P x y) (λ y e. e.0) ys h, each-turn P xs ys (each-map (λ y. AllByRecursion (λ z. P z y) (x ∷ xs)) (λ y. AllByRecursion (λ z. P z y) xs) (λ y e. e.1) ys h))

le-back : (r : Ordering) → is_le r ≡ false → is_le (ordering_reverse r) ≡ true
le-back Less h = cc
le-back Equal h = cc
le-back Greater h = refl

module _ {T : Type 0} (R : T → T → Ordering) where
  -- a row put before the first that it does not come after
  abbrev pub put : T → List T → List T
  put x [] = x ∷ []
  put x (y ∷ ys) = if is_le (R x y) then x ∷ y ∷ ys else y ∷ put x ys

  abbrev pub sorted : List T → List T
  sorted [] = []
  sorted (x ∷ xs) = put x (sorted xs)

  put-same-by : (x y : T) (ys zs : List T) (b : Bool) → IsPermutation (x ∷ ys) zs → IsPermutation (x ∷ y ∷ ys) (if b then x ∷ y ∷ ys else y ∷ zs)
  put-same-by x y ys zs true h = IsPermutation-refl _
  put-same-by x y ys zs false h = IsPermutation-trans _ _ _ (swapped x y ys) (IsPermutation-cons y _ _ h)

  put-same : (x : T) (ys : List T) → IsPermutation (x ∷ ys) (put x ys)
  put-same x [] = IsPermutation-refl _
  put-same x (y ∷ ys) = put-same-by x y ys (put x ys) (is_le (R x y)) (put-same x ys)

  pub sorted-same : (xs : List T) → IsPermutation xs (sorted xs)
  sorted-same [] = IsPermutation-refl _
  sorted-same (x ∷ xs) = IsPermutation-trans _ _ _ (IsPermutation-cons x _ _ (sorted-same xs)) (put-same x (sorted xs))

  each-put-by : (P : T → Type 0) (x y : T) (ys zs : List T) (b : Bool) → P x → P y → AllByRecursion P ys → AllByRecursion P zs → AllByRecursion P (if b then x ∷ y ∷ ys else y ∷ zs)
  each-put-by P x y ys zs true p q qs zz = (p, (q, qs))
  each-put-by P x y ys zs false p q qs zz = (q, zz)

  each-put : (P : T → Type 0) (x : T) (ys : List T) → P x → AllByRecursion P ys → AllByRecursion P (put x ys)
  each-put P x [] p q = (p, tt)
  each-put P x (y ∷ ys) p (q, qs) = each-put-by P x y ys (put x ys) (is_le (R x y)) p q qs (each-put P x ys p qs)

  each-sorted : (P : T → Type 0) (xs : List T) → AllByRecursion P xs → AllByRecursion P (sorted xs)
  each-sorted P [] h = tt
  each-sorted P (x ∷ xs) (p, ps) = each-put P x (sorted xs) p (each-sorted P xs ps)

  pub rises-take : (n : ℕ) (xs : List T) → Rises R xs → Rises R (take n xs)
  rises-take zero xs up = tt
  rises-take (suc n) [] up = tt
  rises-take (suc n) (x ∷ xs) (first, up) = (each-take _ n xs first, rises-take n xs up)

  -- the first n rows and those behind them
  rises-across : (n : ℕ) (xs : List T) → Rises R xs → AllByRecursion (λ a. AllByRecursion (λ b. is_le (R a b) ≡ true) (drop n xs)) (take n xs)
  rises-across zero xs up = tt
  rises-across (suc n) [] up = tt
  rises-across (suc n) (x ∷ xs) (first, up) = (each-drop _ n xs first, rises-across n xs up)

  rises-append : (xs ys : List T) → Rises R xs → Rises R ys → AllByRecursion (λ a. AllByRecursion (λ b. is_le (R a b) ≡ true) ys) xs → Rises R (xs ++ ys)
  rises-append [] ys up up' h = up'
  rises-append (x ∷ xs) ys (first, up) up' (h, hs) = (each-append _ xs ys first h, rises-append xs ys up up' hs)

  no-rest : (n : ℕ) (xs rest : List T) → length xs < n → AllByRecursion (λ r. n ≤ count_by (λ h. is_le (R h r)) xs) rest → rest ≡ []
  no-rest n xs [] short h = refl
  no-rest n xs (r ∷ rest) short (h, hs) = absurd (omega (arith, h, short, count_by-le-length (λ x. is_le (R x r)) xs))

module _ {T : Type 0} (R : T → T → Ordering) (o : IsTotalOrder R) where
  le-after : (x y : T) → is_le (R x y) ≡ false → is_le (R y x) ≡ true
  le-after x y h = rw (o.antisymm y x) (le-back (R x y) h)

  put-rises-by : (x y : T) (ys : List T) (b : Bool) → is_le (R x y) ≡ b → Rises R (y ∷ ys) → Rises R (put R x ys) → Rises R (if b then x ∷ y ∷ ys else y ∷ put R x ys)
  put-rises-by x y ys true e (first, up) more = ((e, each-map _ _ (λ z le. le-chain R o x y z e le) ys first), (first, up))
  put-rises-by x y ys false e (first, up) more = (each-put R _ x ys (le-after x y e) first, more)

  put-rises : (x : T) (ys : List T) → Rises R ys → Rises R (put R x ys)
  put-rises x [] up = (tt, tt)
  put-rises x (y ∷ ys) up = put-rises-by x y ys (is_le (R x y)) refl up (put-rises x ys up.1)

  pub sorted-rises : (xs : List T) → Rises R (sorted R xs)
  sorted-rises [] = tt
  sorted-rises (x ∷ xs) = put-rises x (sorted R xs) (sorted-rises xs)

  full-by : (b : T) (x : T) (xs : List T) (v : Bool) → is_le (R x b) ≡ v → suc (length xs) ≤ upto_row R o b (x ∷ xs) → (length xs ≤ upto_row R o b xs → AllByRecursion (λ a. is_le (R a b) ≡ true) xs) → AllByRecursion (λ a. is_le (R a b) ≡ true) (x ∷ xs)
  full-by b x xs true e h rest = (e, rest (omega (arith, h, count-yes R o b x xs e)))
  full-by b x xs false e h rest = absurd (omega (arith, h, count-no R o b x xs e, count_by-le-length (λ a. is_le (R a b)) xs))

  -- where as many rows as there are do not come after b, none does
  full-count : (b : T) (xs : List T) → length xs ≤ upto_row R o b xs → AllByRecursion (λ a. is_le (R a b) ≡ true) xs
  full-count b [] h = tt
  full-count b (x ∷ xs) h = full-by b x xs (is_le (R x b)) refl h (full-count b xs)

  top-long : (skip count : ℕ) (all held : List T) → Rises R held → skip + count ≤ length held → Part R (skip + count) all held → IsArrangement R skip count all held
  top-long skip count all held up long p =
      let n = skip + count in
      let front = take n held in
      let back = drop n held ++ p.rest in
      let size : length front ≤ n = omega (arith, length-take n held) in
      record {
        arranged = front ++ sorted R back;
        same = IsPermutation-trans _ _ _ (whole-cut R n all held p.rest p.whole) (IsPermutation-append_right front _ _ (sorted-same R back));
        rises = rises-append R front (sorted R back) (rises-take R n held up) (sorted-rises back)
            (each-map _ _ (λ a h. each-sorted R _ back h) front
            (each-both _ _ _ (λ a h k. each-append _ (drop n held) p.rest h k) front (rises-across R n held up)
            (each-turn (λ a b. is_le (R a b) ≡ true) front p.rest (each-map _ _ (λ b h. full-count b front (omega (arith, h, size))) p.rest
            (each-map _ _ (λ r h. count-front R o n held r up h) p.rest p.behind)))));
        is = sym (front-window skip count held (sorted R back) long);
      }

  top-short : (skip count : ℕ) (all held : List T) → Rises R held → length held < skip + count → Part R (skip + count) all held → IsArrangement R skip count all held
  top-short skip count all held up short p = record {
    arranged = held;
    same = subst (λ l. IsPermutation all l) (ap (λ l. held ++ l) (no-rest R (skip + count) held p.rest short p.behind) ∙ append-nil held) p.whole;
    rises = up;
    is = refl;
  }

  pub top-reply : (skip count : ℕ) (all held : List T) → Rises R held → Part R (skip + count) all held → IsArrangement R skip count all held
  top-reply skip count all held up p = elim (le_or_lt (skip + count) (length held)) [ inl long ↦ top-long skip count all held up long p | inr short ↦ top-short skip count all held up short p ]
