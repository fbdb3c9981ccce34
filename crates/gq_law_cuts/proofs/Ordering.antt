-- Numbers below a number in an order: first those that pass a test, then the others. Each stands at its own place, and each place has one.
use Rattle.std.proofs.Common.{◌≡◌, ℕ, zero, suc, ◌+◌, ◌-◌, ◌<◌, ◌≤◌, Bool, true, false, not, ◌&&◌, ◌||◌, cond, nat_eq, nat_lt, Some, List, [], ◌∷◌, ◌++◌, filter, length, slice_get, ◌⊎◌, inl, inr, refl, sym, ap, ap₂, ◌∙◌, arith, append-nil, zero-add, length-append, true≢false}
use Rattle.std.specs.List.{range_with_len}
use Rattle.std.proofs.lemmas.Bool.{cases_eq, eq-eqb, eqb-true, le-ltb, lt-ltb, ne_eqb}
use Rattle.std.proofs.lemmas.Bool.Decides.{nat_tests}
use Rattle.std.proofs.lemmas.List.FromFn.{length-range_with_len}
use Rattle.std.proofs.lemmas.List.Filters.{length-filter_both}
use Rattle.std.proofs.lemmas.List.Folds.{list_any-append}
use Rattle.gq_alternatives.proofs.Searches.{filter_same}
use Rattle.gq_plan.proofs.Each.{each_below, each_then}
use Rattle.gq_plan.proofs.Permuted.{range_any}
use Rattle.gq_plan.specs.Soundness.{has_number}
use Rattle.gq_scopes.specs.Renumbering.{placed_in}

-- ---- places in lists

placed_front : (xs ys : List ℕ) (v : ℕ) → has_number xs v ≡ true → (placed_in (xs ++ ys) v ≡ placed_in xs v) × (placed_in xs v < length xs)
placed_front [] ys v h = absurd (true≢false (sym h))
placed_front (x ∷ xs) ys v h = go (nat_eq v x) h (placed_front xs ys v)
  where
    go : (b : Bool) → (b || has_number xs v) ≡ true → (has_number xs v ≡ true → (placed_in (xs ++ ys) v ≡ placed_in xs v) × (placed_in xs v < length xs))
        → (cond b 0 (suc (placed_in (xs ++ ys) v)) ≡ cond b 0 (suc (placed_in xs v))) × (cond b 0 (suc (placed_in xs v)) < suc (length xs))
    go true h more = (refl, omega arith)
    go false h more = let rest = more h in (ap suc rest.0, let low : placed_in xs v < length xs = rest.1 in omega (arith, low))

placed_past : (xs ys : List ℕ) (v : ℕ) → has_number xs v ≡ false → placed_in (xs ++ ys) v ≡ length xs + placed_in ys v
placed_past [] ys v h = sym (zero-add (placed_in ys v))
placed_past (x ∷ xs) ys v h = go (nat_eq v x) h (placed_past xs ys v)
  where
    go : (b : Bool) → (b || has_number xs v) ≡ false → (has_number xs v ≡ false → placed_in (xs ++ ys) v ≡ length xs + placed_in ys v)
        → cond b 0 (suc (placed_in (xs ++ ys) v)) ≡ suc (length xs) + placed_in ys v
    go true h more = absurd (true≢false h)
    go false h more = let rest : placed_in (xs ++ ys) v ≡ length xs + placed_in ys v = more h in omega (arith, rest)

placed_at : (xs : List ℕ) (v : ℕ) → has_number xs v ≡ true → slice_get xs (placed_in xs v) ≡ Some v
placed_at [] v h = absurd (true≢false (sym h))
placed_at (x ∷ xs) v h = go (nat_eq v x) refl h (placed_at xs v)
  where
    go : (b : Bool) → nat_eq v x ≡ b → (b || has_number xs v) ≡ true → (has_number xs v ≡ true → slice_get xs (placed_in xs v) ≡ Some v)
        → slice_get (x ∷ xs) (cond b 0 (suc (placed_in xs v))) ≡ Some v
    go true e h more = ap Some (sym (eqb-true v x e))
    go false e h more = more h

get_some : {X : Type 0} (xs : List X) (i : ℕ) → i < length xs → (x : X) × (slice_get xs i ≡ Some x)
get_some [] i low = absurd (omega arith)
get_some (x ∷ xs) zero low = (x, refl)
get_some (x ∷ xs) (suc i) low = get_some xs i (omega arith)

-- ---- what passes a test

pub has_filter : (f : ℕ → Bool) (xs : List ℕ) (v : ℕ) → has_number (filter f xs) v ≡ (f v && has_number xs v)
has_filter f [] v = none (f v)
  where
    none : (b : Bool) → false ≡ (b && false)
    none true = refl
    none false = refl
has_filter f (x ∷ xs) v = go (f x) refl (cases_eq v x) (has_filter f xs v)
  where
    first : (b : Bool) → b ≡ true → true ≡ (b && true)
    first b e = sym (ap (λ c. c && true) e)

    go : (b : Bool) → f x ≡ b → (v ≡ x) ⊎ (v ≡ x → ⊥) → has_number (filter f xs) v ≡ (f v && has_number xs v)
        → has_number (cond b (x ∷ filter f xs) (filter f xs)) v ≡ (f v && (nat_eq v x || has_number xs v))
    go true is (inl e) more =
        ap (λ c. c || has_number (filter f xs) v) (eq-eqb v x e) ∙ first (f v) (ap f e ∙ is) ∙ ap (λ c. f v && (c || has_number xs v)) (sym (eq-eqb v x e))
    go true is (inr other) more =
        ap (λ c. c || has_number (filter f xs) v) (ne_eqb v x other) ∙ more ∙ ap (λ c. f v && (c || has_number xs v)) (sym (ne_eqb v x other))
    go false is (inl e) more = more ∙ ap (λ c. c && has_number xs v) (ap f e ∙ is) ∙ sym (ap (λ c. c && (nat_eq v x || has_number xs v)) (ap f e ∙ is))
    go false is (inr other) more = more ∙ ap (λ c. f v && (c || has_number xs v)) (sym (ne_eqb v x other))

pub range_has : (n v : ℕ) → has_number (range_with_len 0 n) v ≡ nat_lt v n
range_has n v = range_any v 0 n (omega arith) ∙ ap (nat_lt v) (zero-add n)

-- those of a range that pass stand in order, so each stands at its own place
at_own : (f : ℕ → Bool) (n a u v : ℕ) (ys : List ℕ) → slice_get (filter f (range_with_len a n)) u ≡ Some v
    → (placed_in (filter f (range_with_len a n) ++ ys) v ≡ u) × (a ≤ v) × (v < a + n) × (f v ≡ true)
at_own f zero a u v ys e = absurd (cc e)
at_own f (suc n) a u v ys e = go (f a) refl u e (λ w h. at_own f n (a + 1) w v ys h)
  where
    rest : List ℕ
    rest = filter f (range_with_len (a + 1) n)

    go : (b : Bool) → f a ≡ b → (u : ℕ) → slice_get (cond b (a ∷ filter f (range_with_len (a + 1) n)) (filter f (range_with_len (a + 1) n))) u ≡ Some v
        → ((w : ℕ) → slice_get (filter f (range_with_len (a + 1) n)) w ≡ Some v → (placed_in (filter f (range_with_len (a + 1) n) ++ ys) v ≡ w) × (a + 1 ≤ v) × (v < a + 1 + n) × (f v ≡ true))
        → (placed_in (cond b (a ∷ filter f (range_with_len (a + 1) n)) (filter f (range_with_len (a + 1) n)) ++ ys) v ≡ u) × (a ≤ v) × (v < a + suc n) × (f v ≡ true)
    go true is zero e more =
        let same : a ≡ v = cc in (
          ap (λ c. cond c 0 (suc (placed_in (filter f (range_with_len (a + 1) n) ++ ys) v))) (eq-eqb v a (sym same)),
          omega (arith, same),
          omega (arith, same),
          ap f (sym same) ∙ is,
        )
    go true is (suc u) e more =
        let h = more u e in
        let above : a + 1 ≤ v = h.1 in
        let below : v < a + 1 + n = h.2 in (
          ap (λ c. cond c 0 (suc (placed_in (filter f (range_with_len (a + 1) n) ++ ys) v))) (ne_eqb v a (λ s. omega (arith, s, above))) ∙ ap suc h.0,
          omega (arith, above),
          omega (arith, below),
          h.3,
        )
    go false is u e more =
        let h = more u e in
        let above : a + 1 ≤ v = h.1 in
        let below : v < a + 1 + n = h.2 in
        (h.0, omega (arith, above), omega (arith, below), h.3)

-- ---- an order

module _ (c : ℕ → Bool) (n : ℕ) where
  abbrev pub firsts : List ℕ
  firsts = filter c (range_with_len 0 n)

  abbrev pub rest : List ℕ
  rest = filter (λ v. not (has_number firsts v)) (range_with_len 0 n)

  abbrev pub order : List ℕ
  order = firsts ++ rest

  pub first_is : (v : ℕ) → v < n → has_number firsts v ≡ c v
  first_is v low = has_filter c (range_with_len 0 n) v ∙ ap (λ b. c v && b) (range_has n v ∙ lt-ltb v n low) ∙ keep (c v)
    where
      keep : (b : Bool) → (b && true) ≡ b
      keep true = refl
      keep false = refl

  rest_has : (v : ℕ) → v < n → has_number firsts v ≡ false → has_number rest v ≡ true
  rest_has v low none =
      has_filter (λ w. not (has_number firsts w)) (range_with_len 0 n) v
      ∙ ap₂ (λ a b. not a && b) none (range_has n v ∙ lt-ltb v n low)

  pub order_length : length order ≡ n
  order_length =
      length-append firsts rest
      ∙ ap (λ l. length l + length rest)
      (filter_same c (has_number firsts) (range_with_len 0 n) (each_then (λ k. k < n) (λ k. c k ≡ has_number firsts k) (λ k low. sym (first_is k low)) (range_with_len 0 n) (each_below 0 n n (omega arith))))
      ∙ length-filter_both (has_number firsts) (λ v. not (has_number firsts v)) (λ v. refl) (range_with_len 0 n)
      ∙ length-range_with_len 0 n

  pub firsts_few : length firsts ≤ n
  firsts_few = let all : length order ≡ n = order_length in let both : length order ≡ length firsts + length rest = length-append firsts rest in omega (arith, all, both)

  order_has : (v : ℕ) → v < n → has_number order v ≡ true
  order_has v low = list_any-append (nat_eq v) firsts rest ∙ go (has_number firsts v) refl
    where
      go : (b : Bool) → has_number firsts v ≡ b → (b || has_number rest v) ≡ true
      go true e = refl
      go false e = rest_has v low e

  -- a number is among the first where its place is
  pub placed_first : (v : ℕ) → v < n → (has_number firsts v ≡ nat_lt (placed_in order v) (length firsts)) × (placed_in order v < n)
  placed_first v low = go (has_number firsts v) refl
    where
      all : length order ≡ n
      all = order_length

      both : length order ≡ length firsts + length rest
      both = length-append firsts rest

      go : (b : Bool) → has_number firsts v ≡ b → (b ≡ nat_lt (placed_in order v) (length firsts)) × (placed_in order v < n)
      go true e =
          let there = placed_front firsts rest v e in
          let is : placed_in order v ≡ placed_in firsts v = there.0 in
          let low : placed_in firsts v < length firsts = there.1 in
          (sym (lt-ltb (placed_in order v) (length firsts) (omega (arith, is, low))), let few : length firsts ≤ n = firsts_few in omega (arith, is, low, few))
      go false e =
          let is : placed_in order v ≡ length firsts + placed_in rest v = placed_past firsts rest v e in
          let low : placed_in rest v < length rest = (placed_front rest [] v (rest_has v low e)).1 in
          (sym (le-ltb (placed_in order v) (length firsts) (omega (arith, is))), let a : length order ≡ n = order_length in let b : length order ≡ length firsts + length rest = length-append firsts rest in omega (arith, is, low, a, b))

  -- different numbers stand at different places
  pub placed_apart : (v w : ℕ) → v < n → w < n → placed_in order v ≡ placed_in order w → v ≡ w
  placed_apart v w low below same =
      let a : slice_get order (placed_in order v) ≡ Some v = placed_at order v (order_has v low) in
      let b : slice_get order (placed_in order w) ≡ Some w = placed_at order w (order_has w below) in
      let both : Some v ≡ Some w = sym a ∙ ap (slice_get order) same ∙ b in
      cc

  -- each place has a number
  pub placed_onto : (u : ℕ) → u < n → (v : ℕ) × (v < n) × (placed_in order v ≡ u)
  placed_onto u low = go (nat_lt u (length firsts)) refl
    where
      go : (b : Bool) → nat_lt u (length firsts) ≡ b → (v : ℕ) × (v < n) × (placed_in order v ≡ u)
      go true e =
          let here : u < length firsts = grind (arith, nat_tests, e) in
          let x = get_some firsts u here in
          let own = at_own c n 0 u x.0 rest x.1 in
          let below : x.0 < 0 + n = own.2 in
          (x.0, omega (arith, below), own.0)
      go false e =
          let past : length firsts ≤ u = grind (arith, nat_tests, e) in
          let i : ℕ = u - length firsts in
          let all : length order ≡ n = order_length in
          let both : length order ≡ length firsts + length rest = length-append firsts rest in
          let x = get_some rest i (omega (arith, past, all, both, low)) in
          let own = at_own (λ w. not (has_number firsts w)) n 0 i x.0 [] x.1 in
          let below : x.0 < 0 + n = own.2 in
          let at : placed_in rest x.0 ≡ i = ap (λ l. placed_in l x.0) (sym (append-nil rest)) ∙ own.0 in
          let is : placed_in order x.0 ≡ length firsts + placed_in rest x.0 = placed_past firsts rest x.0 (unmade (has_number firsts x.0) own.3) in
          (x.0, omega (arith, below), omega (arith, at, is, past))
        where
          unmade : (b : Bool) → not b ≡ true → b ≡ false
          unmade true h = absurd (true≢false (sym h))
          unmade false h = refl
