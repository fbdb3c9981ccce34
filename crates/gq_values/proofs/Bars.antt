-- Rows that do not come before the last of those that come first.
use Rattle.std.proofs.Common.{◌≡◌, ℕ, ◌+◌, ◌-◌, ◌<◌, ◌≤◌, zero, suc, Bool, true, false, cond, List, [], ◌∷◌, ◌++◌, length, map, take, drop, refl, sym, ap, ◌∙◌, subst, Option, Some, None, zero-add, append-nil, arith, length-append, length-take, true≢false}
use Rattle.std.specs.Prelude.{count_by, flat_map}
use Rattle.std.specs.Cmp.{IsTotalOrder, tied_itself}
use Rattle.std.specs.List.{AllByRecursion}
use Rattle.std.specs.Ordering.{is_le}
use Rattle.std.specs.declared.cmp.Ordering.{Ordering}
use Rattle.std.proofs.Math.Seq.{get_or-append_seam}
use Rattle.std.proofs.lemmas.Grind.{flat_map-append}
use Rattle.std.proofs.lemmas.List.{drop-map, drop_at, length-drop, length-map, take_all}
use Rattle.std.proofs.lemmas.List.Sums.{sum_by-append, sum_by-le-sum_by}
use Rattle.gq_base.specs.Values.{Val, val}
use Rattle.gq_base.specs.declared.Value.{Value}
use Rattle.gq_plan.specs.Outcomes.{Row}
use Rattle.gq_plan.specs.declared.bound.Bound.{Bound}
use Rattle.gq_kept.specs.Answers.{by_keys, keys_order}
use Rattle.gq_values.specs.Keeping.{HoldsOf, IsBehind, last_of}
use Rattle.gq_kept.specs.Tables.{HasBar}
use Rattle.gq_values.specs.declared.held.Rows.{Rows}
use Rattle.gq_kept.proofs.Ranked.{by_keys_total, keys_order_total}
use Rattle.gq_kept.proofs.Rising.{Rises, le-chain}
use Rattle.gq_kept.proofs.Tops.{rises-take}

-- ---- counts

bit_le : (a b : Bool) → (a ≡ true → b ≡ true) → cond a 1 0 ≤ cond b 1 0
bit_le true true f = omega arith
bit_le true false f = absurd (true≢false (sym (f refl)))
bit_le false b f = omega arith

module _ {T : Type 0} where
  -- what passes one test passes the other
  pub count-more : (p q : T → Bool) → ((x : T) → p x ≡ true → q x ≡ true) → (xs : List T) → count_by p xs ≤ count_by q xs
  count-more p q f xs = sum_by-le-sum_by (λ x. cond (p x) 1 0) (λ x. cond (q x) 1 0) xs (λ x. bit_le (p x) (q x) (f x))

  count-all : (p : T → Bool) (xs : List T) → AllByRecursion (λ x. p x ≡ true) xs → count_by p xs ≡ length xs
  count-all p [] h = refl
  count-all p (x ∷ xs) (h, hs) =
      sum_by-append (λ y. cond (p y) 1 0) (x ∷ []) xs
      ∙ ap (λ n. n + count_by p xs) (zero-add (cond (p x) 1 0) ∙ ap (λ b. cond b 1 0) h)
      ∙ ap (λ n. 1 + n) (count-all p xs hs) ∙ omega arith

  -- ---- the last of rows in order

  each-last : (P : T → Type 0) (front : List T) (last : T) → AllByRecursion P (front ++ last ∷ []) → P last
  each-last P [] last h = h.0
  each-last P (x ∷ front) last h = each-last P front last h.1

  split_last : (xs : List T) → 0 < length xs → (front : List T) × (last : T) × (xs ≡ front ++ last ∷ [])
  split_last [] lt = absurd (omega (arith, lt))
  split_last (x ∷ []) lt = ([], x, refl)
  split_last (x ∷ y ∷ ys) lt = let r = split_last (y ∷ ys) (omega arith) in (x ∷ r.0, r.1, ap (λ l. x ∷ l) r.2)

  last-behind : (R : T → T → Ordering) → IsTotalOrder R → (front : List T) (last : T) → Rises R (front ++ last ∷ []) → AllByRecursion (λ x. is_le (R x last) ≡ true) (front ++ last ∷ [])
  last-behind R o [] last up = (ap is_le (tied_itself o last), tt)
  last-behind R o (x ∷ front) last up = (each-last (λ y. is_le (R x y) ≡ true) front last up.0, last-behind R o front last up.1)

-- ---- the bar

-- the last so many values
pub last_values : (keys : List Value) (start k : ℕ) → start ≡ length keys - k → map val (take (length keys - start) (drop start keys)) ≡ last_of k (map val keys)
last_values keys start k e =
    ap (map val) (take_all (length keys - start) (drop start keys) (omega (arith, length-drop start keys)))
    ∙ sym (drop-map val start keys)
    ∙ ap (λ n. drop n (map val keys)) (omega (arith, e, length-map keys val))

module _ (b : Bound) (n : ℕ) where
  -- the keys of the last row
  pub keys-of-last : (list : List Row) (last : Row) (v : Rows) → HoldsOf b (list ++ last ∷ []) v → last_of (length b.keys) (map val v.keys.items) ≡ last.keys
  keys-of-last list last v h =
      let before : List Val = flat_map (λ (r : Row). r.keys) list in
      let wide : length last.keys ≡ length b.keys =
      subst (λ (r : Row). length r.keys ≡ length b.keys) (get_or-append_seam list last [] last) (h.sized (length list) last (omega (arith, length-append list (last ∷ [])))).1 in
      let keys : map val v.keys.items ≡ before ++ last.keys = h.keys ∙ flat_map-append (λ (r : Row). r.keys) list (last ∷ []) ∙ ap (λ l. before ++ l) (append-nil last.keys) in
      ap (last_of (length b.keys)) keys ∙ drop_at before last.keys (length (before ++ last.keys) - length b.keys) (omega (arith, wide, length-append before last.keys))

  -- those of the last of the first n rows in order are a bar
  pub bar-of-cut : (arranged : List Row) (new : Rows) (bar : List Val) → Rises (by_keys b) arranged → n ≤ length arranged → HoldsOf b (take n arranged) new
      → bar ≡ last_of (length b.keys) (map val new.keys.items) → n ≤ count_by (λ (r : Row). is_le (keys_order b.keys r.keys bar)) (take n arranged)
  bar-of-cut arranged new bar up long h is = go n refl
    where
      ys : List Row
      ys = take n arranged

      size : length ys ≡ n
      size = length-take n arranged ∙ omega (arith, long)

      go : (m : ℕ) → n ≡ m → n ≤ count_by (λ (r : Row). is_le (keys_order b.keys r.keys bar)) ys
      go zero e = omega (arith, e)
      go (suc m) e =
          let parts = split_last ys (omega (arith, size, e)) in
          let front = parts.0 in
          let last = parts.1 in
          let whole = parts.2 in
          let same : bar ≡ last.keys = is ∙ keys-of-last front last new (subst (λ l. HoldsOf b l new) whole h) in
          let all : AllByRecursion (λ (r : Row). is_le (by_keys b r last) ≡ true) ys =
          subst (AllByRecursion (λ (r : Row). is_le (by_keys b r last) ≡ true)) (sym whole)
          (last-behind (by_keys b) (by_keys_total b) front last (subst (Rises (by_keys b)) whole (rises-take (by_keys b) n arranged up))) in
          let count : count_by (λ (r : Row). is_le (keys_order b.keys r.keys bar)) ys ≡ length ys =
          ap (λ k. count_by (λ (r : Row). is_le (keys_order b.keys r.keys k)) ys) same ∙ count-all (λ (r : Row). is_le (by_keys b r last)) ys all in
          omega (arith, count, size)

  -- what does not come after the bar does not come after a row behind the bar
  pub behind-bar : (bar : Option (List Val)) (list : List Row) (row : Row) → HasBar b n list bar → IsBehind b bar row.keys → n ≤ count_by (λ h. is_le (by_keys b h row)) list
  behind-bar None list row has behind = absurd behind
  behind-bar (Some bar) list row has behind =
      omega (
        arith,
        has,
        count-more (λ (r : Row). is_le (keys_order b.keys r.keys bar)) (λ h. is_le (by_keys b h row))
            (λ r e. le-chain (keys_order b.keys) (keys_order_total b.keys) r.keys bar row.keys e behind) list,
      )

  -- the bar stays one with a row more
  pub bar-more : (bar : Option (List Val)) (list : List Row) (row : Row) → HasBar b n list bar → HasBar b n (list ++ row ∷ []) bar
  bar-more None list row has = tt
  bar-more (Some bar) list row has = omega (arith, has, sum_by-append (λ (r : Row). cond (is_le (keys_order b.keys r.keys bar)) 1 0) list (row ∷ []))
