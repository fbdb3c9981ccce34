-- What is answered at each step of a query is a permitted reply.
use Rattle.std.proofs.Common.{◌≡◌, ℕ, ◌+◌, ◌<◌, ◌≤◌, Bool, true, false, cond, not, ◌&&◌, ◌||◌, Option, Some, None, List, [], ◌∷◌, ◌++◌, flat_map, length, Result, Err, refl, sym, ap, ap₂, ◌∙◌, subst, arith, add-zero, append_assoc, append-nil, length-append, inl, inr}
use Rattle.std.proofs.lemmas.Bool.{or_from, and_right}
use Rattle.std.proofs.Math.Bool.{or-true, or_assoc}
use Rattle.std.specs.Prelude.{◌⊎◌, nat_lt}
use Rattle.std.specs.List.{Contains}
use Rattle.std.specs.List.Sorted.{IsPermutation}
use Rattle.std.proofs.lemmas.Bool.Decides.{nat_tests}
use Rattle.std.proofs.lemmas.Grind.{flat_map-append}
use Rattle.std.proofs.lemmas.List.Sorted.{IsPermutation-refl, IsPermutation-sym, IsPermutation-trans, IsPermutation-append, IsPermutation-append_left, IsPermutation-append_right}
use Rattle.gq_base.specs.Lists.{is_empty}
use Rattle.gq_base.specs.Values.{Val}
use Rattle.gq_expr.specs.declared.Fault.{Fault}
use Rattle.gq_plan.specs.Outcomes.{Row}
use Rattle.gq_plan.specs.declared.Typed.{Typed}
use Rattle.gq_kept.specs.Answers.{Answers, rows_in, cut_of, first_of, looked_at, kept, row_in}
use Rattle.gq_kept.specs.Tables.{Held, StandsFor, is_full}
use Rattle.gq_execute.specs.Replies.{Question, all_outcomes, outcomes_in, has_turn, has_large_part, some_heavy, has_heavy_clause, has_heavy_test, has_turns, Rows, Faulted, TooManyRows, IsPermitted}
use Rattle.gq_execute.specs.Spending.{with_turns}
use Rattle.gq_execute.specs.steps.Answering.{AreParted, Reached}
use Rattle.gq_kept.proofs.Listings.{looked_front, rows_append, kept_grows, kept_few, full_enough, full_looked, open_few, few_rows}
use Rattle.gq_law_plans.proofs.Reordered.{permuted_flat_map}
use Rattle.std.proofs.lemmas.List.Sorted.{length_permutation}

pub rows_bag : (xs ys : List (Result Row Fault)) → IsPermutation xs ys → length (rows_in xs) ≡ length (rows_in ys)
rows_bag xs ys same = sym (length_permutation _ _ (permuted_flat_map row_in xs ys same))

-- ---- heavy alternatives

module _ (a : Question) where
  -- the rows of alternatives, together
  abbrev pub rows_of : List Typed → ℕ
  rows_of ys = length (rows_in (flat_map (outcomes_in a) ys))

  rows_of_more : (y : Typed) (ys : List Typed) → rows_of (y ∷ ys) ≡ length (rows_in (outcomes_in a y)) + rows_of ys
  rows_of_more y ys = ap length (rows_append (outcomes_in a y) (flat_map (outcomes_in a) ys)) ∙ length-append (rows_in (outcomes_in a y)) (rows_in (flat_map (outcomes_in a) ys))

  heavy_append : (before : ℕ) (xs ys : List Typed) → some_heavy a before (xs ++ ys) ≡ (some_heavy a before xs || some_heavy a (before + rows_of xs) ys)
  heavy_append before [] ys = ap (λ n. some_heavy a n ys) (sym (add-zero before))
  heavy_append before (x ∷ xs) ys =
      let r : ℕ = length (rows_in (outcomes_in a x)) in
      let same : before + r + rows_of xs ≡ before + rows_of (x ∷ xs) = omega (arith, rows_of_more x xs) in
      ap (λ b. (has_turn (cut_of a.bound) before && has_large_part a.graph a.order a.most x) || b) (heavy_append (before + r) xs ys ∙ ap (λ n. some_heavy a (before + r) xs || some_heavy a n ys) same)
      ∙ sym (or_assoc (has_turn (cut_of a.bound) before && has_large_part a.graph a.order a.most x) (some_heavy a (before + r) xs) (some_heavy a (before + rows_of (x ∷ xs)) ys))

  -- no alternative has a turn behind as many rows as are looked at
  pub no_turn : (n before : ℕ) → cut_of a.bound ≡ Some n → n ≤ before → has_turn (cut_of a.bound) before ≡ false
  no_turn n before e h = ap (λ c. has_turn c before) e ∙ less
    where
      less : nat_lt before n ≡ false
      less = grind (arith, nat_tests, h)

  light_behind : (n before : ℕ) (ys : List Typed) → cut_of a.bound ≡ Some n → n ≤ before → some_heavy a before ys ≡ false
  light_behind n before [] e h = refl
  light_behind n before (y ∷ ys) e h =
      or_from _ _ (ap (λ b. b && has_large_part a.graph a.order a.most y) (no_turn n before e h)) (light_behind n (before + length (rows_in (outcomes_in a y))) ys e (omega arith))

  has_turn_of : (cut : Option ℕ) (before : ℕ) → ((n : ℕ) → cut ≡ Some n → before < n) → has_turn cut before ≡ true
  has_turn_of None before h = refl
  has_turn_of (Some n) before h = less before n (h n refl)
    where
      less : (m n : ℕ) → m < n → nat_lt m n ≡ true
      less m n k = grind (arith, nat_tests, k)

  -- ---- the alternatives whose turn comes

  turns_append : (before : ℕ) (xs ys : List Typed) → with_turns a before (xs ++ ys) ≡ with_turns a before xs ++ with_turns a (before + rows_of xs) ys
  turns_append before [] ys = ap (λ n. with_turns a n ys) (sym (add-zero before))
  turns_append before (x ∷ xs) ys =
      let r : ℕ = length (rows_in (outcomes_in a x)) in
      let same : before + r + rows_of xs ≡ before + rows_of (x ∷ xs) = omega (arith, rows_of_more x xs) in
      go (has_turn (cut_of a.bound) before) _ _ _ (turns_append (before + r) xs ys ∙ ap (λ n. with_turns a (before + r) xs ++ with_turns a n ys) same)
    where
      go : (turn : Bool) (all front back : List Typed) → all ≡ front ++ back → cond turn (x ∷ all) all ≡ cond turn (x ∷ front) front ++ back
      go true all front back e = ap (λ l. x ∷ l) e
      go false all front back e = e

  -- none has behind as many rows as are looked at
  no_turns : (n before : ℕ) (ys : List Typed) → cut_of a.bound ≡ Some n → n ≤ before → with_turns a before ys ≡ []
  no_turns n before [] e h = refl
  no_turns n before (y ∷ ys) e h =
      let later : List Typed = with_turns a (before + length (rows_in (outcomes_in a y))) ys in
      ap (λ turn. cond turn (y ∷ later) later) (no_turn n before e h) ∙ no_turns n (before + length (rows_in (outcomes_in a y))) ys e (omega (arith, h))

  -- ---- the steps

  pub reached_start : Reached a [] [] []
  reached_start = record { as_a_bag = IsPermutation-refl []; light = refl; turned = refl }

  -- an alternative is begun, since its turn comes: no part of it is too large, and these outcomes are left of it
  pub reached_next : (begun : List Typed) (pushed : List (Result Row Fault)) (y : Typed) (os : List (Result Row Fault)) → IsPermutation (outcomes_in a y) os
      → has_large_part a.graph a.order a.most y ≡ false → has_turn (cut_of a.bound) (rows_of begun) ≡ true → Reached a begun pushed [] → Reached a (begun ++ y ∷ []) pushed os
  reached_next begun pushed y os gives light turn at = record {
    as_a_bag =
        subst (λ l. IsPermutation l (pushed ++ os)) (sym (flat_map-append (outcomes_in a) begun (y ∷ [])))
        (IsPermutation-append _ _ _ _ (subst (IsPermutation (flat_map (outcomes_in a) begun)) (append-nil pushed) at.as_a_bag)
        (subst (λ l. IsPermutation l os) (sym (append-nil (outcomes_in a y))) gives));
    light =
        heavy_append 0 begun (y ∷ [])
        ∙ or_from _ _ at.light (or_from _ _ (and_right (has_turn (cut_of a.bound) (0 + rows_of begun)) (has_large_part a.graph a.order a.most y) light) refl);
    turned =
        let here : 0 + rows_of begun ≡ rows_of begun = omega arith in
        turns_append 0 begun (y ∷ [])
        ∙ ap₂ (λ l t. l ++ cond t (y ∷ []) []) at.turned (ap (has_turn (cut_of a.bound)) here ∙ turn);
  }

  -- some of what is left is pushed
  pub reached_more : (begun : List Typed) (pushed os front left : List (Result Row Fault)) → IsPermutation os (front ++ left) → Reached a begun pushed os → Reached a begun (pushed ++ front) left
  reached_more begun pushed os front left is at = record {
    as_a_bag =
        subst (IsPermutation (flat_map (outcomes_in a) begun)) (sym (append_assoc pushed front left))
        (IsPermutation-trans _ _ _ at.as_a_bag (IsPermutation-append_right pushed os (front ++ left) is));
    light = at.light;
    turned = at.turned;
  }

-- ---- the replies

module _ (a : Question) (parted : AreParted a) (begun later : List Typed) (pushed left : List (Result Row Fault))
    (are : a.bound.alternatives ≡ begun ++ later) (at : Reached a begun pushed left) where
  -- a listing: what was pushed, what is left, and the alternatives that were not begun
  abbrev behind : List (Result Row Fault)
  behind = left ++ flat_map (outcomes_in a) later

  abbrev listing : List (Result Row Fault)
  listing = pushed ++ behind

  listing_bag : IsPermutation (all_outcomes a) listing
  listing_bag =
      IsPermutation-trans _ _ _ (IsPermutation-sym _ _ parted)
      (subst (λ l. IsPermutation l listing) (sym (ap (flat_map (outcomes_in a)) are ∙ flat_map-append (outcomes_in a) begun later))
      (subst (IsPermutation (flat_map (outcomes_in a) begun ++ flat_map (outcomes_in a) later)) (append_assoc pushed left (flat_map (outcomes_in a) later))
      (IsPermutation-append_left (flat_map (outcomes_in a) later) _ _ at.as_a_bag)))

  -- the rows of what was begun are those that were pushed and those that are left
  begun_rows : rows_of a begun ≡ length (rows_in pushed) + length (rows_in left)
  begun_rows = rows_bag _ _ at.as_a_bag ∙ ap length (rows_append pushed left) ∙ length-append (rows_in pushed) (rows_in left)

  -- a fault that is looked at among what was pushed
  pub fault_permitted : (f : Fault) → Contains (looked_at a.bound pushed) (Err f) → IsPermitted a (Faulted f)
  fault_permitted f h = record { listing = listing; as_a_bag = listing_bag; permits = looked_front (cut_of a.bound) pushed behind (Err f) h }

  -- too many rows are kept of what was pushed
  pub many_permitted : a.most < kept a.bound (rows_in pushed) → IsPermitted a TooManyRows
  many_permitted h =
      let more : a.most < kept a.bound (rows_in listing) = omega (arith, h, kept_grows a.bound (rows_in pushed) (rows_in behind), ap (kept a.bound) (rows_append pushed behind)) in
      record { listing = listing; as_a_bag = listing_bag; permits = rw (less a.most (kept a.bound (rows_in listing)) more) refl }
    where
      less : (m n : ℕ) → m < n → nat_lt m n ≡ true
      less m n k = grind (arith, nat_tests, k)

  -- where a table that stands for what was pushed is full, no further turn comes
  pub turns_end : (held : Held) → StandsFor a.bound a.most pushed held → is_full (cut_of a.bound) held ≡ true → (n : ℕ) → cut_of a.bound ≡ Some n → n ≤ rows_of a begun
  turns_end held stands full n e = omega (arith, begun_rows, full_enough a.bound a.most pushed held stands n e full)

  -- where it is not full and nothing is left, the turn of the next alternative comes
  pub turn_comes : (held : Held) → StandsFor a.bound a.most pushed held → is_full (cut_of a.bound) held ≡ false → left ≡ [] → has_turn (cut_of a.bound) (rows_of a begun) ≡ true
  turn_comes held stands room none =
      has_turn_of a (cut_of a.bound) (rows_of a begun)
      (λ n e. omega (arith, begun_rows, ap (λ l. length (rows_in l)) none, open_few a.bound a.most pushed held stands n e room, few_rows pushed))

  -- so nothing behind is heavy
  light_by : (cut : Option ℕ) → cut_of a.bound ≡ cut → (held : Held) → StandsFor a.bound a.most pushed held → is_full (cut_of a.bound) held ≡ true → some_heavy a 0 (begun ++ later) ≡ false
  light_by None e held stands full = absurd (let no : false ≡ true = sym (ap (λ c. is_full c held) e) ∙ full in cc)
  light_by (Some n) e held stands full =
      heavy_append a 0 begun later ∙ or_from _ _ at.light (light_behind a n (0 + rows_of a begun) later e (omega (arith, turns_end held stands full n e)))

  light_all : (held : Held) → StandsFor a.bound a.most pushed held → (is_full (cut_of a.bound) held ≡ true) ⊎ ((left ≡ []) × (later ≡ [])) → some_heavy a 0 (begun ++ later) ≡ false
  light_all held stands (inl full) = light_by (cut_of a.bound) refl held stands full
  light_all held stands (inr none) = ap (λ l. some_heavy a 0 (begun ++ l)) none.1 ∙ ap (some_heavy a 0) (append-nil begun) ∙ at.light

  -- nor does the turn of one behind come
  turned_by : (cut : Option ℕ) → cut_of a.bound ≡ cut → (held : Held) → StandsFor a.bound a.most pushed held → is_full (cut_of a.bound) held ≡ true → with_turns a 0 (begun ++ later) ≡ begun
  turned_by None e held stands full = absurd (let no : false ≡ true = sym (ap (λ c. is_full c held) e) ∙ full in cc)
  turned_by (Some n) e held stands full =
      turns_append a 0 begun later
      ∙ ap₂ (λ l k. l ++ k) at.turned (no_turns a n (0 + rows_of a begun) later e (omega (arith, turns_end held stands full n e)))
      ∙ append-nil begun

  pub turned_all : (held : Held) → StandsFor a.bound a.most pushed held → (is_full (cut_of a.bound) held ≡ true) ⊎ ((left ≡ []) × (later ≡ [])) → with_turns a 0 a.bound.alternatives ≡ begun
  turned_all held stands (inl full) = ap (with_turns a 0) are ∙ turned_by (cut_of a.bound) refl held stands full
  turned_all held stands (inr none) = ap (with_turns a 0) are ∙ ap (λ l. with_turns a 0 (begun ++ l)) none.1 ∙ ap (with_turns a 0) (append-nil begun) ∙ at.turned

  none_behind : (left ≡ []) × (later ≡ []) → behind ≡ []
  none_behind none = ap₂ (λ l k. l ++ flat_map (outcomes_in a) k) none.0 none.1

  same_looked : (held : Held) → StandsFor a.bound a.most pushed held → (is_full (cut_of a.bound) held ≡ true) ⊎ ((left ≡ []) × (later ≡ [])) → first_of (cut_of a.bound) listing ≡ first_of (cut_of a.bound) pushed
  same_looked held stands (inl full) = full_looked a.bound a.most pushed held stands behind full
  same_looked held stands (inr none) = ap (first_of (cut_of a.bound)) (ap (λ l. pushed ++ l) (none_behind none) ∙ append-nil pushed)

  rest_of : (held : Held) → (is_full (cut_of a.bound) held ≡ true) ⊎ ((left ≡ []) × (later ≡ [])) → (is_full (cut_of a.bound) held ≡ true) ⊎ (behind ≡ [])
  rest_of held (inl full) = inl full
  rest_of held (inr none) = inr (none_behind none)

  few_kept : (m n : ℕ) → n ≤ m → nat_lt m n ≡ false
  few_kept m n h = grind (arith, nat_tests, h)

  -- the rows, once as many are held as are looked at, or nothing is left
  pub rows_permitted : (held : Held) (lines : List (List Val)) → StandsFor a.bound a.most pushed held → (is_full (cut_of a.bound) held ≡ true) ⊎ ((left ≡ []) × (later ≡ []))
      → Answers a.bound pushed lines → (has_heavy_test a || has_heavy_clause a) ≡ false → IsPermitted a (Rows lines)
  rows_permitted held lines stands done answers light = record {
    listing = listing;
    as_a_bag = listing_bag;
    permits = (
      or_from _ _ (few_kept a.most (kept a.bound (rows_in listing)) (kept_few a.bound a.most pushed held stands behind (rest_of held done))) (or_from _ _ (ap (some_heavy a 0) are ∙ light_all held stands done) light),
      record { rows = answers.rows; looked = same_looked held stands done ∙ answers.looked; lists = answers.lists },
    );
  }

-- the next alternative's turn comes, and some part of it is too large
pub heavy_permitted : (a : Question) → AreParted a → (begun later : List Typed) (y : Typed) (pushed : List (Result Row Fault)) (held : Held) → a.bound.alternatives ≡ begun ++ y ∷ later
    → Reached a begun pushed [] → StandsFor a.bound a.most pushed held → is_full (cut_of a.bound) held ≡ false → has_large_part a.graph a.order a.most y ≡ true → IsPermitted a TooManyRows
heavy_permitted a parted begun later y pushed held are at stands room heavy = record {
  listing = listing a parted begun (y ∷ later) pushed [] are at;
  as_a_bag = listing_bag a parted begun (y ∷ later) pushed [] are at;
  permits = ap (λ b. nat_lt a.most (kept a.bound (rows_in (listing a parted begun (y ∷ later) pushed [] are at))) || (b || (has_heavy_test a || has_heavy_clause a))) (ap (some_heavy a 0) are ∙ heavy_append a 0 begun (y ∷ later) ∙ here) ∙ or-true _;
}
  where
    here : (some_heavy a 0 begun || some_heavy a (0 + rows_of a begun) (y ∷ later)) ≡ true
    here =
        let zero_rows : 0 + rows_of a begun ≡ rows_of a begun = omega arith in
        ap (λ b. some_heavy a 0 begun || (b || some_heavy a (0 + rows_of a begun + length (rows_in (outcomes_in a y))) later))
        (ap₂ ◌&&◌ (ap (has_turn (cut_of a.bound)) zero_rows ∙ turn_comes a parted begun (y ∷ later) pushed [] are at held stands room refl) heavy)
        ∙ or-true (some_heavy a 0 begun)

-- the path of a test has too many keys, or an optional clause too many matches
pub before_permitted : (a : Question) → (has_heavy_test a || has_heavy_clause a) ≡ true → IsPermitted a TooManyRows
before_permitted a heavy = record {
  listing = all_outcomes a;
  as_a_bag = IsPermutation-refl (all_outcomes a);
  permits =
      let many : Bool = nat_lt a.most (kept a.bound (rows_in (all_outcomes a))) in
      let parts : Bool = some_heavy a 0 a.bound.alternatives in
      ap (λ b. many || (parts || b)) heavy ∙ ap (λ b. many || b) (or-true parts) ∙ or-true many;
}

-- ---- whether a turn comes

module _ (a : Question) (parted : AreParted a) (held : Held) (stands : StandsFor a.bound a.most [] held) where
  -- the first alternative's comes where an empty table is not full
  pub turns_come : is_full (cut_of a.bound) held ≡ false → is_empty a.bound.alternatives ≡ false → has_turns a ≡ true
  turns_come room some = ap₂ ◌&&◌ (turn_comes a parted [] a.bound.alternatives [] [] refl (reached_start a) held stands room refl) (ap not some)

  none_by : (cut : Option ℕ) → cut_of a.bound ≡ cut → is_full (cut_of a.bound) held ≡ true → has_turn (cut_of a.bound) 0 ≡ false
  none_by None e full = absurd (let no : false ≡ true = sym (ap (λ c. is_full c held) e) ∙ full in cc)
  none_by (Some n) e full = no_turn a n 0 e (turns_end a parted [] a.bound.alternatives [] [] refl (reached_start a) held stands full n e)

  -- else none does
  pub none_full : is_full (cut_of a.bound) held ≡ true → has_turns a ≡ false
  none_full full = ap (λ b. b && not (is_empty a.bound.alternatives)) (none_by (cut_of a.bound) refl full)

pub none_there : (a : Question) → is_empty a.bound.alternatives ≡ true → has_turns a ≡ false
none_there a none = and_right (has_turn (cut_of a.bound) 0) (not (is_empty a.bound.alternatives)) (ap not none)
