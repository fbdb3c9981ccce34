-- Numbers that the levels pass over.
use Rattle.std.proofs.Common.{◌≡◌, ℕ, zero, suc, ◌+◌, ◌-◌, ◌*◌, ◌/◌, ◌%◌, ◌<◌, ◌≤◌, min, Bool, true, false, List, [], ◌∷◌, ◌++◌, length, take, refl, sym, ap, ◌∙◌, subst, arith, inl, inr, cond, true≢false}
use Rattle.std.specs.Prelude.{◌&&◌}
use Rattle.std.proofs.lemmas.Bool.{cases_lt, lt-ltb}
use Rattle.std.specs.List.{filter}
use Rattle.gq_bits.specs.declared.TheConstants.{VECTOR}
use Rattle.gq_search.specs.declared.walker.Cursor.{Cursor}
use Rattle.gq_search.specs.Layouts.{numbers_from, numbers_in, places_of, Layout, below, count, keys, live, has_one}
use Rattle.gq_search.specs.Marked.{kept_in}
use Rattle.gq_search.specs.Running.{IsBlank, IsOpened, Jumps, prefix}
use Rattle.gq_search.proofs.Odometer.{left, left-skip, left-past, open_keys, open_keys-skip, open_keys-past}
use Rattle.gq_search.proofs.Runs.{length-keys}
use Rattle.gq_search.proofs.Searching.{Search}
use Rattle.gq_search.proofs.Stepping.{After}

-- none of a range is kept
none_of : (p : ℕ → Bool) (x n : ℕ) → ((j : ℕ) → x ≤ j → j < x + n → p j ≡ false) → filter p (numbers_from x n) ≡ []
none_of p x zero h = refl
none_of p x (suc n) h = rw (h x (omega arith) (omega arith)) (none_of p (x + 1) n (λ j low high. h j (omega arith) (omega arith)))

-- a place of the list that is not kept is not kept by the tests
tests_drop : (l : Layout) (pre : List ℕ) (j : ℕ) → j < l.size pre → kept_in l pre j ≡ false → l.keeps pre j ≡ false
tests_drop l pre j inside h = ap (λ b. b && l.keeps pre j) (sym (lt-ltb j (l.size pre) inside)) ∙ h

pub dead_flat : (l : Layout) (pre : List ℕ) (from to k : ℕ) → l.flat pre ≡ true → IsBlank l pre from to → VECTOR * from ≤ k → k < VECTOR * to → k < count l pre → live l pre k ≡ false
dead_flat l pre from to k flat blank low high inside =
    let inside' : k < l.size pre = subst (λ b. k < numbers_in b (l.size pre)) flat inside in
    ap (λ b. has_one (filter (l.keeps pre) (places_of b (l.size pre) k))) flat
    ∙ ap (λ b. has_one (cond b (k ∷ []) [])) (tests_drop l pre k inside' (blank k low high))

pub dead_piece : (l : Layout) (pre : List ℕ) (from to k : ℕ) → l.flat pre ≡ false → IsBlank l pre from to → from ≤ k → k < to → live l pre k ≡ false
dead_piece l pre from to k flat blank low high =
    ap (λ b. has_one (filter (l.keeps pre) (places_of b (l.size pre) k))) flat
    ∙ ap has_one (none_of (l.keeps pre) (VECTOR * k) (min VECTOR (l.size pre - VECTOR * k))
    (λ j above below. tests_drop l pre j (omega (arith, below)) (blank j (omega (arith, above, low)) (omega (arith, below, high)))))

pub stays : (l : Layout) (pre : List ℕ) (next : ℕ) → Jumps l pre next next
stays l pre next = record {
  later = omega arith;
  inside = λ less. absurd (omega (arith, less));
  dead = λ k low high. absurd (omega (arith, low, high));
  starts = λ less. absurd (omega (arith, less));
}

pub jumps_flat : (l : Layout) (pre : List ℕ) (next to : ℕ) → l.flat pre ≡ true → next < count l pre → next % VECTOR ≡ 0 → next / VECTOR ≤ to → IsBlank l pre (next / VECTOR) to → Jumps l pre next (to * VECTOR)
jumps_flat l pre next to flat within start later blank = record {
  later = omega (arith, start, later);
  inside = λ less. within;
  dead = λ k low high inside. dead_flat l pre (next / VECTOR) to k flat blank (omega (arith, low)) (omega (arith, high)) inside;
  starts = λ less is. omega arith;
}

pub jumps_piece : (l : Layout) (pre : List ℕ) (next to : ℕ) → l.flat pre ≡ false → next < count l pre → next ≤ to → IsBlank l pre next to → Jumps l pre next to
jumps_piece l pre next to flat within later blank = record {
  later = later;
  inside = λ less. within;
  dead = λ k low high inside. dead_piece l pre next to k flat blank low high;
  starts = λ less is. absurd (true≢false (sym is ∙ flat));
}

-- under a number without a kept place there is no key
none_below : (l : Layout) (n : ℕ) (pre : List ℕ) (k : ℕ) → live l pre k ≡ false → below l n pre k ≡ []
none_below l n pre k dead = ap (λ b. cond b (keys l n (pre ++ k ∷ [])) []) dead

-- nothing is owed under what was passed over, and no more of the search is left
module _ (l : Layout) (n : ℕ) (pre : List ℕ) (wide : length pre < n) where
  step_same : (k : ℕ) → (k < count l pre → live l pre k ≡ false) → (open_keys l n [] pre k ≡ open_keys l n [] pre (k + 1)) × (left l n [] pre (k + 1) ≤ left l n [] pre k)
  step_same k dead = elim (cases_lt k (count l pre)) [
    | inl low ↦ (open_keys-skip l n (n - (length pre + 1)) [] pre k (omega (arith, wide)) low (none_below l (n - (length pre + 1)) pre k (dead low)), (let less = left-skip l n [] pre k wide low in omega (arith, less)))
    | inr high ↦ (open_keys-past l n [] pre k high, left-past l n [] pre k high)
  ]

  pub rest_same : (next more : ℕ) → ((k : ℕ) → next ≤ k → k < next + more → k < count l pre → live l pre k ≡ false)
      → (open_keys l n [] pre next ≡ open_keys l n [] pre (next + more)) × (left l n [] pre (next + more) ≤ left l n [] pre next)
  rest_same next zero h =
      let e : next + 0 ≡ next = omega arith in
      subst (λ m. (open_keys l n [] pre next ≡ open_keys l n [] pre m) × (left l n [] pre m ≤ left l n [] pre next)) (sym e) (refl, omega arith)
  rest_same next (suc more) h =
      let e : next + more + 1 ≡ next + suc more = omega arith in
      let a = rest_same next more (λ k low high. h k low (omega (arith, high))) in
      let b = step_same (next + more) (h (next + more) (omega arith) (omega arith)) in
      subst (λ m. (open_keys l n [] pre next ≡ open_keys l n [] pre m) × (left l n [] pre m ≤ left l n [] pre next)) e (a.0 ∙ b.0, (let x = a.1 in let y = b.1 in omega (arith, x, y)))

-- the search goes on behind what was passed over
module _ (l : Layout) (n : ℕ) (owed : List (List ℕ)) (open_at : List ℕ → Type 0) (cut_at : List ℕ → ℕ → Type 0) where
  pub jump : (cs : List Cursor) (ms : List (List Bool)) (depth next to : ℕ) → Search l n owed cs ms depth next → open_at (prefix cs depth) → Jumps l (prefix cs depth) next to → next < to
      → After l l n n owed open_at cut_at (left l n [] (prefix cs depth) next) cs ms depth to
  jump cs ms depth next to s opens j less =
      let o = s.opened in
      let pre : List ℕ = prefix cs depth in
      let wide : length (prefix cs depth) < n = omega (arith, length-keys cs depth (omega (arith, o.inside, o.groups)), o.inside) in
      let at : next + 1 + (to - (next + 1)) ≡ to = omega (arith, less) in
      let first = j.inside less in
      let one = left-skip l n [] (prefix cs depth) next wide first in
      let skip = open_keys-skip l n (n - (length (prefix cs depth) + 1)) [] (prefix cs depth) next (omega (arith, wide)) first (none_below l (n - (length (prefix cs depth) + 1)) (prefix cs depth) next (j.dead next (omega arith) less first)) in
      let far = rest_same l n (prefix cs depth) wide (next + 1) (to - (next + 1)) (λ k low high. j.dead k (omega (arith, low)) (omega (arith, high, at))) in
      let starts : l.flat (prefix cs depth) ≡ true → to % VECTOR ≡ 0 = j.starts less in
      let opened : IsOpened l n cs ms depth to = record {
        groups = o.groups;
        marks = o.marks;
        inside = o.inside;
        runs = o.runs;
        size_is = o.size_is;
        few = o.few;
        cached = λ flat mid. absurd (mid (starts flat));
      } in
      record {
        ready = record { search = opened; opens = opens; cuts = λ flat mid. absurd (mid (starts flat)) };
        search = record { opened = opened; rest = sym (skip ∙ far.0 ∙ ap (open_keys l n [] (prefix cs depth)) at) ∙ s.rest };
        less = (let y = far.1 in let z = ap (left l n [] (prefix cs depth)) at in omega (arith, one, y, z));
      }
