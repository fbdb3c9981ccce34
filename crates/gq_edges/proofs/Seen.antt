-- A single column that is filled pair by pair.
use Rattle.std.proofs.Common.{◌≡◌, ◌≢◌, ℕ, zero, suc, ◌+◌, ◌-◌, ◌^◌, ◌<◌, List, [], ◌∷◌, length, get_or, set, cond, eqb, Option, Some, None, refl, sym, ap, ◌∙◌, subst, arith, inl, inr}
use Rattle.std.proofs.lemmas.Bool.{cases_eq, eq-eqb, ne_eqb, cases_lt}
use Rattle.std.proofs.lemmas.List.{length-set, get_or_read_under, get_or-set_same, get_or-set_other}
use Rattle.gq_edges.specs.Once.{Pair, pair_at, IsPairOf, IsSecond}
use Rattle.gq_edges.specs.steps.Once.{pairs_of}

pub length-pairs_of : (ns ts : List ℕ) → length ts ≡ length ns → length (pairs_of ns ts) ≡ length ns
length-pairs_of [] ts e = refl
length-pairs_of (n ∷ ns) [] e = absurd (omega arith)
length-pairs_of (n ∷ ns) (t ∷ ts) e = omega (arith, length-pairs_of ns ts (omega arith))

pub pair-pairs_of : (ns ts : List ℕ) (v : ℕ) → length ts ≡ length ns → v < length ns →
    pair_at (pairs_of ns ts) v ≡ cond (eqb (get_or ns v 0) (2 ^ 32 - 1)) None (Some (record { number = get_or ns v 0; target = get_or ts v 0 }))
pair-pairs_of [] ts v e h = absurd (omega arith)
pair-pairs_of (n ∷ ns) [] v e h = absurd (omega arith)
pair-pairs_of (n ∷ ns) (t ∷ ts) zero e h = refl
pair-pairs_of (n ∷ ns) (t ∷ ts) (suc v) e h = pair-pairs_of ns ts v (omega arith) (omega arith)

-- the pair of a source, as its number tells
module _ (numbers targets : List ℕ) (v many number : ℕ) (pairs : List (Option Pair)) (seen : pairs_of numbers targets ≡ pairs) (paired : length targets ≡ length numbers) (len : many ≡ length numbers) (inside : v < length pairs) (read : number ≡ get_or numbers v number) where
  inside_numbers : v < length numbers
  inside_numbers = omega (arith, inside, ap length seen, length-pairs_of numbers targets paired)

  number_is : number ≡ get_or numbers v 0
  number_is = get_or_read_under numbers v many number 0 read (omega (arith, inside_numbers, len)) len

  pair_is : pair_at pairs v ≡ cond (eqb number (2 ^ 32 - 1)) None (Some (record { number = number; target = get_or targets v 0 }))
  pair_is = rw (← seen, number_is) (pair-pairs_of numbers targets v paired inside_numbers)

  pub pair_none : number ≡ 2 ^ 32 - 1 → pair_at pairs v ≡ None
  pair_none none = pair_is ∙ ap (λ b. cond b None (Some (record { number = number; target = get_or targets v 0 }))) (eq-eqb number (2 ^ 32 - 1) none)

  pub pair_some : number ≢ 2 ^ 32 - 1 → pair_at pairs v ≡ Some (record { number = number; target = get_or targets v 0 })
  pair_some some = pair_is ∙ ap (λ b. cond b None (Some (record { number = number; target = get_or targets v 0 }))) (ne_eqb number (2 ^ 32 - 1) some)

-- the pairs before i are placed, and no two of them have one source
pub record Seen (n i : ℕ) (numbers targets from to : List ℕ) : Type 0 where
  pub numbers_len : length numbers ≡ n
  pub targets_len : length targets ≡ n
  pub absent : (v : ℕ) → v < n → get_or numbers v 0 ≡ 2 ^ 32 - 1 → (k : ℕ) → k < i → get_or from k 0 ≢ v
  pub there : (v : ℕ) → v < n → get_or numbers v 0 ≢ 2 ^ 32 - 1 → (get_or numbers v 0 < i) × (get_or from (get_or numbers v 0) 0 ≡ v) × (get_or targets v 0 ≡ get_or to (get_or numbers v 0) 0)
  pub once : (j k : ℕ) → j < k → k < i → get_or from j 0 ≢ get_or from k 0

pub seen_more : (n i : ℕ) (numbers targets from to : List ℕ) → Seen n i numbers targets from to → i < 2 ^ 32 - 1 → get_or from i 0 < n → get_or numbers (get_or from i 0) 0 ≡ 2 ^ 32 - 1 →
    Seen n (i + 1) (set numbers (get_or from i 0) i) (set targets (get_or from i 0) (get_or to i 0)) from to
seen_more n i numbers targets from to s short inside free = record {
  numbers_len = length-set numbers f i ∙ s.numbers_len;
  targets_len = length-set targets f (get_or to i 0) ∙ s.targets_len;
  absent = λ v h none k w. elim (cases_eq v f) [
    | inl same ↦ absurd (omega (arith, get_or-set_same numbers f i 0 numbers_in, subst (λ u. get_or (set numbers f i) u 0 ≡ 2 ^ 32 - 1) same none))
    | inr other ↦ elim (cases_lt k i) [
      | inl before ↦ s.absent v h (sym (get_or-set_other numbers f v i 0 other) ∙ none) k before
      | inr last ↦ (let e : k ≡ i = omega arith in λ at. other (sym at ∙ ap (λ j. get_or from j 0) e))
    ]
  ];
  there = λ v h some. elim (cases_eq v f) [
    | inl same ↦ subst (λ u. (get_or (set numbers f i) u 0 < i + 1) × (get_or from (get_or (set numbers f i) u 0) 0 ≡ u) × (get_or (set targets f t) u 0 ≡ get_or to (get_or (set numbers f i) u 0) 0)) (sym same)
        (let now : get_or (set numbers f i) f 0 ≡ i = get_or-set_same numbers f i 0 numbers_in in
        (omega (arith, now), ap (λ j. get_or from j 0) now, get_or-set_same targets f t 0 targets_in ∙ ap (λ j. get_or to j 0) (sym now)))
    | inr other ↦
        (let keep : get_or (set numbers f i) v 0 ≡ get_or numbers v 0 = get_or-set_other numbers f v i 0 other in
        let had = s.there v h (λ e. some (keep ∙ e)) in
        (omega (arith, keep, had.0), ap (λ j. get_or from j 0) keep ∙ had.1, get_or-set_other targets f v t 0 other ∙ had.2 ∙ ap (λ j. get_or to j 0) (sym keep)))
  ];
  once = λ j k w h. elim (cases_lt k i) [
    | inl before ↦ s.once j k w before
    | inr last ↦ (let e : k ≡ i = omega arith in λ at. s.absent f inside free j (omega arith) (at ∙ ap (λ m. get_or from m 0) e))
  ];
}
  where
    f : ℕ
    f = get_or from i 0

    t : ℕ
    t = get_or to i 0

    numbers_in : get_or from i 0 < length numbers
    numbers_in = omega (arith, s.numbers_len, inside)

    targets_in : get_or from i 0 < length targets
    targets_in = omega (arith, s.targets_len, inside)

pub seen_second : (n i : ℕ) (numbers targets from to : List ℕ) → Seen n i numbers targets from to → i < length from → get_or from i 0 < n → get_or numbers (get_or from i 0) 0 ≢ 2 ^ 32 - 1 → IsSecond from i
seen_second n i numbers targets from to s h inside some =
    let had = s.there (get_or from i 0) inside some in
    record { within = h; stood = (get_or numbers (get_or from i 0) 0, had.0, had.1); once_before = s.once }

-- what is placed is the pair of each source
pub seen_pairs : (n i : ℕ) (numbers targets from to : List ℕ) → Seen n i numbers targets from to → i ≡ length from → (v : ℕ) → v < n → IsPairOf from to v (pair_at (pairs_of numbers targets) v)
seen_pairs n i numbers targets from to s all v h =
    let is = pair-pairs_of numbers targets v (s.targets_len ∙ sym s.numbers_len) (omega (arith, s.numbers_len)) in
    elim (cases_eq (get_or numbers v 0) (2 ^ 32 - 1)) [
      | inl none ↦ subst (IsPairOf from to v) (sym (is ∙ ap (λ b. cond b None (Some p)) (eq-eqb (get_or numbers v 0) (2 ^ 32 - 1) none))) (λ k w. s.absent v h none k (omega arith))
      | inr some ↦
          (let had = s.there v h some in
          subst (IsPairOf from to v) (sym (is ∙ ap (λ b. cond b None (Some p)) (ne_eqb (get_or numbers v 0) (2 ^ 32 - 1) some))) (record { within = omega (arith, had.0); source = had.1; target = had.2 }))
    ]
  where
    p : Pair
    p = record { number = get_or numbers v 0; target = get_or targets v 0 }
