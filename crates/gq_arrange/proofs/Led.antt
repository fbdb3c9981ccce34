-- A plan that fits, with the step of its first group in front of the tests that stand before it.
use Rattle.std.proofs.Common.{◌≡◌, ◌∙◌, ◌<◌, ◌≤◌, ◌+◌, ap, ap₂, sym, refl, ℕ, zero, suc, Bool, true, false, cond, ◌&&◌, Option, Some, None, List, [], ◌∷◌, ◌++◌, append_assoc, filter, map, flat_map, length, length-append, slice_get, nat_eq, subst, arith, true≢false}
use Rattle.std.specs.Prelude.{nat_lt, IsPermutation}
use Rattle.std.specs.List.{AllByRecursion, list_all, range_with_len}
use Rattle.std.specs.Option.{option_to_list, unwrap_or}
use Rattle.std.proofs.lemmas.Bool.{and_parts, le-ltb, lt-ltb, ltb-false, ltb-true}
use Rattle.std.proofs.lemmas.List.{map-append}
use Rattle.std.proofs.lemmas.List.Elements.{filter-append}
use Rattle.std.proofs.lemmas.List.Sorted.{IsPermutation-append_comm, IsPermutation-append_left, IsPermutation-map, IsPermutation-trans}
use Rattle.std.proofs.lemmas.Option.{unwrap_or-slice_get}
use Rattle.gq_base.specs.Catalogs.{Tables}
use Rattle.gq_law_groups.specs.Groups.{checked, makes_group}
use Rattle.gq_law_groups.specs.Law.{HasStepsOf}
use Rattle.gq_law_groups.specs.Layout.{AreFlatEnough}
use Rattle.gq_law_groups.proofs.Halved.{after_halved, bound_permuted}
use Rattle.gq_plan.specs.Arranged.{at_numbers, flags_of, home, homes, in_order, numbers_at, order_of}
use Rattle.gq_plan.specs.Columns.{steps_of}
use Rattle.gq_plan.specs.Covers.{Fits, after_step, fits, fits_step, goes, loop_bound, pair_bound, test_bound}
use Rattle.gq_plan.specs.Halves.{Runs, halved, halves}
use Rattle.gq_plan.specs.Known.{Known, is_bound, none}
use Rattle.gq_plan.specs.Meaning.{holds}
use Rattle.gq_plan.specs.Plans.{Plan, Done, Then, Step, Scan, Extend, Close, Join, Keep, Differ, NoLoop, Single, Meet, steps}
use Rattle.gq_plan.specs.Reads.{Read, reads}
use Rattle.gq_plan.specs.Shapes.{Places, all_flat, flat_by, form_of, group_of, last_of, next_group, nowhere, place_step, places, places_after, test_groups, tested}
use Rattle.gq_plan.specs.Soundness.{has_number}
use Rattle.gq_plan.specs.declared.bound.NamedExpr.{NamedExpr}
use Rattle.gq_plan.specs.declared.typed.Typed.{Typed}
use Rattle.gq_plan.specs.declared.variable.Variable.TheVariants.{Node as node, Rel as rel}
use Rattle.gq_plan.specs.declared.variable.Variable.{Variable}
use Rattle.gq_arrange.specs.Law.{IsArranged, ArrangedPlansFit, flag, grouped, groups_of, leading, led_number, led_order}
use Rattle.gq_arrange.proofs.Arranged.{arranged_first}
use Rattle.gq_arrange.proofs.Makers.{makes_at, makers_in_order}
use Rattle.gq_arrange.proofs.Running.{count_grows, count_made, home_made}

-- ---- a test that reads nothing

bound_none : (v : Variable) → is_bound none v ≡ false
bound_none (node v) = refl
bound_none (rel x) = refl

none_read : (rs : List Read) → list_all (λ (r : Read). is_bound none r.variable) rs ≡ true → rs ≡ []
none_read [] h = refl
none_read (r ∷ rs) h = absurd (true≢false (sym (and_parts (is_bound none r.variable) (list_all (λ (q : Read). is_bound none q.variable) rs) h).0 ∙ bound_none r.variable))

nothing_tested : (o : Option NamedExpr) (w : Places) → holds (test_bound none) o ≡ true → test_groups w o ≡ []
nothing_tested None w h = refl
nothing_tested (Some test) w h = ap (map (λ (r : Read). group_of w r.variable)) (none_read (reads test.expr) h)

bound_more : (o : Option NamedExpr) (k : Known) → holds (test_bound none) o ≡ true → holds (test_bound k) o ≡ true
bound_more None k h = absurd (true≢false (sym h))
bound_more (Some test) k h = ap (list_all (λ (r : Read). is_bound k r.variable)) (none_read (reads test.expr) h)

holds_never : {X : Type 0} (f : X → Bool) → ((x : X) → f x ≡ false) → (o : Option X) → holds f o ≡ true → ⊥
holds_never f off None h = true≢false (sym h)
holds_never f off (Some x) h = true≢false (sym h ∙ off x)

and_false : (b : Bool) → (b && false) ≡ false
and_false true = refl
and_false false = refl

pub record IsIdle (y : Typed) (s : Step) : Type 0 where
  pub number : ℕ
  pub is : s ≡ Keep number
  pub reads : holds (test_bound none) (slice_get y.tests number) ≡ true

-- a step that makes no group and fits where nothing is bound is one
idle : (catalog : Tables) (y : Typed) (s : Step) → makes_group s ≡ false → fits_step catalog y s none ≡ true → IsIdle y s
unfolding fits_step
idle catalog y (Scan v) m fit = absurd (true≢false m)
idle catalog y (Extend true x from to way) m fit = absurd (true≢false (sym (and_parts (holds (goes catalog true from to way) (slice_get y.rels x)) false fit).1))
idle catalog y (Extend false x from to way) m fit = absurd (true≢false m)
idle catalog y (Close true x from to way) m fit = absurd (true≢false (sym (and_parts (holds (goes catalog true from to way) (slice_get y.rels x)) false fit).1))
idle catalog y (Close false x from to way) m fit = absurd (true≢false m)
idle catalog y (Join side keys) m fit = absurd (true≢false m)
idle catalog y (Keep i) m fit = record { number = i; is = refl; reads = fit }
idle catalog y (Differ d) m fit = absurd (holds_never (pair_bound none) (λ pair. refl) (slice_get y.pairs d) fit)
idle catalog y (NoLoop x) m fit = absurd (holds_never (loop_bound none x) (λ r. and_false r.no_loop) (slice_get y.rels x) fit)
idle catalog y (Single x from to way) m fit = absurd (true≢false (sym fit))
idle catalog y (Meet x from to way) m fit = absurd (true≢false (sym fit))

module _ (y : Typed) (s : Step) (h : IsIdle y s) where
  pub idle_small : makes_group s ≡ false
  idle_small = ap makes_group h.is

  idle_flat : (w : Places) → flat_by y w s ≡ []
  idle_flat w = ap (flat_by y w) h.is ∙ ap (λ l. filter (λ i. nat_lt i (last_of l)) l) (nothing_tested (slice_get y.tests h.number) w h.reads)

  idle_place : (w : Places) → place_step s w ≡ w
  unfolding place_step
  idle_place w = ap (λ t. place_step t w) h.is

  idle_halves : halves s ≡ s ∷ []
  idle_halves = ap halves h.is ∙ ap (λ t. t ∷ []) (sym h.is)

  idle_home : (b : Places) (i : ℕ) → home y b i s ≡ 0
  idle_home b i = ap (home y b i) h.is ∙ ap last_of (nothing_tested (slice_get y.tests h.number) b h.reads)

  idle_next : (i : ℕ) → next_group i (form_of s) ≡ i
  idle_next i = ap (λ t. next_group i (form_of t)) h.is

  idle_fits : (catalog : Tables) (k : Known) → fits_step catalog y s k ≡ true
  unfolding fits_step
  idle_fits catalog k = ap (λ t. fits_step catalog y t k) h.is ∙ bound_more (slice_get y.tests h.number) k h.reads

  pub idle_after : (k : Known) → after_step s k ≡ k
  unfolding after_step
  idle_after k = ap (λ t. after_step t k) h.is

-- ---- such tests in front of a plan

abbrev pub AreIdle : Typed → List Step → Type 0
AreIdle y ts = AllByRecursion (IsIdle y) ts

pub steps_checked : (ts : List Step) (p : Plan) → steps_of (checked ts p) ≡ ts ++ steps_of p
steps_checked [] p = refl
steps_checked (t ∷ ts) p = ap (λ l. t ∷ l) (steps_checked ts p)

-- a step that makes a group runs as a whole
made_halves : (s : Step) → makes_group s ≡ true → halves s ≡ s ∷ []
made_halves (Scan v) m = refl
made_halves (Extend column x from to way) m = refl
made_halves (Close true x from to way) m = absurd (true≢false (sym m))
made_halves (Close false x from to way) m = refl
made_halves (Join side keys) m = refl
made_halves (Keep i) m = absurd (true≢false (sym m))
made_halves (Differ d) m = absurd (true≢false (sym m))
made_halves (NoLoop x) m = absurd (true≢false (sym m))
made_halves (Single x from to way) m = absurd (true≢false (sym m))
made_halves (Meet x from to way) m = absurd (true≢false (sym m))

halved_made : (s : Step) (p : Plan) → makes_group s ≡ true → halved (Then s p) ≡ Then s (halved p)
halved_made s p m = ap (λ l. steps (l ++ flat_map halves (steps_of p))) (made_halves s m)

module _ (y : Typed) where
  none_made : (ts : List Step) (ss : List Step) → AreIdle y ts → filter makes_group (ts ++ ss) ≡ filter makes_group ss
  none_made [] ss h = refl
  none_made (t ∷ ts) ss h = ap (λ c. cond c (t ∷ filter makes_group (ts ++ ss)) (filter makes_group (ts ++ ss))) (idle_small y t h.0) ∙ none_made ts ss h.1

  fits_behind : (catalog : Tables) (ts : List Step) (p : Plan) (k : Known) → AreIdle y ts → fits catalog y p k ≡ true → fits catalog y (checked ts p) k ≡ true
  unfolding fits
  fits_behind catalog [] p k h fit = fit
  fits_behind catalog (t ∷ ts) p k h fit =
      ap₂ ◌&&◌ (idle_fits y t h.0 catalog k) (ap (fits catalog y (checked ts p)) (idle_after y t h.0 k) ∙ fits_behind catalog ts p k h.1 fit)

  same_places : (ts : List Step) (p : Plan) (w : Places) → AreIdle y ts → places_after (checked ts p) w ≡ places_after p w
  unfolding places_after
  same_places [] p w h = refl
  same_places (t ∷ ts) p w h = ap (places_after (checked ts p)) (idle_place y t h.0 w) ∙ same_places ts p w h.1

  halved_checked : (ts : List Step) (p : Plan) → AreIdle y ts → halved (checked ts p) ≡ checked ts (halved p)
  halved_checked [] p h = refl
  halved_checked (t ∷ ts) p h = ap (λ l. steps (l ++ flat_map halves (steps_of (checked ts p)))) (idle_halves y t h.0) ∙ ap (Then t) (halved_checked ts p h.1)

  same_flat : (ts : List Step) (p : Plan) (w : Places) → AreIdle y ts → all_flat y w (checked ts p) ≡ all_flat y w p
  unfolding all_flat
  same_flat [] p w h = refl
  same_flat (t ∷ ts) p w h = ap (λ l. l ++ all_flat y w (checked ts p)) (idle_flat y t h.0 w) ∙ same_flat ts p w h.1

  -- they stand in the first group, as does the step that makes it
  abbrev zeros : List Step → List ℕ
  zeros ts = map (λ t. 0) ts

  homes_checked : (b : Places) (i : ℕ) (ts : List Step) (p : Plan) → AreIdle y ts → homes y b i (checked ts p) ≡ zeros ts ++ homes y b i p
  unfolding homes
  homes_checked b i [] p h = refl
  homes_checked b i (t ∷ ts) p h =
      ap₂ ◌∷◌ (idle_home y t h.0 b i) (ap (λ n. homes y b n (checked ts p)) (idle_next y t h.0 i) ∙ homes_checked b i ts p h.1)

  zeros_before : (ts : List Step) (hs : List ℕ) → zeros ts ++ (0 ∷ hs) ≡ 0 ∷ (zeros ts ++ hs)
  zeros_before [] hs = refl
  zeros_before (t ∷ ts) hs = ap (λ l. 0 ∷ l) (zeros_before ts hs)

  same_homes : (b : Places) (ts : List Step) (s : Step) (r : Plan) → makes_group s ≡ true → AreIdle y ts → homes y b 0 (Then s (checked ts r)) ≡ homes y b 0 (checked ts (Then s r))
  unfolding homes
  same_homes b ts s r m h =
      let next = next_group 0 (form_of s) in
      ap₂ ◌∷◌ (home_made y b 0 s m) (homes_checked b next ts r h)
      ∙ sym (zeros_before ts (homes y b next r))
      ∙ ap (λ n. zeros ts ++ (n ∷ homes y b next r)) (sym (home_made y b 0 s m))
      ∙ sym (homes_checked b 0 ts (Then s r) h)

  -- whether groups are flat, by what a plan tells
  abbrev flags_by : Places → (Places → List ℕ) → List Bool
  flags_by u all = map (λ i. has_number (all u) i) (range_with_len 0 u.count)

  module _ (ts : List Step) (s : Step) (r : Plan) (h : AreIdle y ts) where
    abbrev q : Plan
    q = Then s r

    -- before the first group's step, and behind it
    flags_before : flags_of y (checked ts q) ≡ flags_of y q
    flags_before = let u = same_places ts q nowhere h in λ i. flags_by (u i) (λ w. same_flat ts q w h i)

    flags_led : flags_of y (Then s (checked ts r)) ≡ flags_of y q
    unfolding places_after all_flat
    flags_led =
        let l : Plan = Then s (checked ts r) in
        let u : places l ≡ places q = same_places ts r (place_step s nowhere) h in
        λ i. flags_by (u i) (λ w. flat_by y w s ++ same_flat ts r w h i)

    -- as it runs
    halved_before : makes_group s ≡ true → halved (checked ts q) ≡ checked ts (Then s (halved r))
    halved_before m = halved_checked ts q h ∙ ap (checked ts) (halved_made s r m)

    halved_led : makes_group s ≡ true → halved (Then s (checked ts r)) ≡ Then s (checked ts (halved r))
    halved_led m = halved_made s (checked ts r) m ∙ ap (Then s) (halved_checked ts r h)

    -- the numbers are the same, group by group
    numbers_same : makes_group s ≡ true → order_of y (Then s (checked ts r)) ≡ order_of y (checked ts q)
    unfolding places_after
    numbers_same m =
        let l : Plan = Then s (checked ts r) in
        let u : places l ≡ places (checked ts q) = same_places ts r (place_step s nowhere) h ∙ sym (same_places ts q nowhere h) in
        ap (λ z. flat_map (λ g. numbers_at g 0 (homes y (places l) 0 z)) (range_with_len 0 (places l).count)) (halved_led m)
        ∙ ap (λ hs. flat_map (λ g. numbers_at g 0 hs) (range_with_len 0 (places l).count)) (same_homes (places l) ts s (halved r) m h)
        ∙ ap₂ (λ (a : Places) (z : Plan). flat_map (λ g. numbers_at g 0 (homes y a 0 z)) (range_with_len 0 a.count)) u (sym (halved_before m))

    same_made : filter makes_group (steps_of (Then s (checked ts r))) ≡ filter makes_group (steps_of (checked ts q))
    same_made =
        ap (λ ss. filter makes_group (s ∷ ss)) (steps_checked ts r)
        ∙ ap (λ l. cond (makes_group s) (s ∷ l) l) (none_made ts (steps_of r) h)
        ∙ sym (ap (filter makes_group) (steps_checked ts q) ∙ none_made ts (steps_of q) h)

-- ---- numbers

number_first : (ts : List Step) (s : Step) (rs : List Step) → slice_get (ts ++ s ∷ rs) (length ts) ≡ Some s
number_first [] s rs = refl
number_first (t ∷ ts) s rs = number_first ts s rs

number_behind : (ts : List Step) (s : Step) (rs : List Step) (n : ℕ) → slice_get (ts ++ s ∷ rs) (cond (nat_lt n (length ts)) n (suc n)) ≡ slice_get (ts ++ rs) n
number_behind [] s rs n = ap (λ c. slice_get (s ∷ rs) (cond c n (suc n))) (le-ltb n 0 (omega arith))
number_behind (t ∷ ts) s rs zero = ap (λ c. slice_get (t ∷ (ts ++ s ∷ rs)) (cond c 0 1)) (lt-ltb 0 (length (t ∷ ts)) (omega arith))
number_behind (t ∷ ts) s rs (suc n) = go (nat_lt n (length ts)) refl (number_behind ts s rs n)
  where
    next : (c : Bool) → nat_lt n (length ts) ≡ c → nat_lt (suc n) (suc (length ts)) ≡ c
    next true e = lt-ltb (suc n) (suc (length ts)) (let low = ltb-true n (length ts) e in omega (arith, low))
    next false e = le-ltb (suc n) (suc (length ts)) (let high = ltb-false n (length ts) e in omega (arith, high))

    go : (c : Bool) → nat_lt n (length ts) ≡ c → slice_get (ts ++ s ∷ rs) (cond (nat_lt n (length ts)) n (suc n)) ≡ slice_get (ts ++ rs) n
        → slice_get (t ∷ (ts ++ s ∷ rs)) (cond (nat_lt (suc n) (suc (length ts))) (suc n) (suc (suc n))) ≡ slice_get (ts ++ rs) n
    go true e on = ap (λ c. slice_get (t ∷ (ts ++ s ∷ rs)) (cond c (suc n) (suc (suc n)))) (next true e) ∙ sym (ap (λ c. slice_get (ts ++ s ∷ rs) (cond c n (suc n))) e) ∙ on
    go false e on = ap (λ c. slice_get (t ∷ (ts ++ s ∷ rs)) (cond c (suc n) (suc (suc n)))) (next false e) ∙ sym (ap (λ c. slice_get (ts ++ s ∷ rs) (cond c n (suc n))) e) ∙ on

number_led : (ts : List Step) (s : Step) (rs : List Step) (n : ℕ) → slice_get (ts ++ s ∷ rs) (led_number (length ts) n) ≡ slice_get (s ∷ (ts ++ rs)) n
number_led ts s rs zero = number_first ts s rs
number_led ts s rs (suc n) = number_behind ts s rs n

numbers_led : (ts : List Step) (s : Step) (rs : List Step) (ns : List ℕ) → at_numbers (ts ++ s ∷ rs) (map (led_number (length ts)) ns) ≡ at_numbers (s ∷ (ts ++ rs)) ns
numbers_led ts s rs [] = refl
numbers_led ts s rs (n ∷ ns) = ap₂ (λ (o : Option Step) (l : List Step). option_to_list o ++ l) (number_led ts s rs n) (numbers_led ts s rs ns)

range_parts : (a n m : ℕ) → range_with_len a (n + m) ≡ range_with_len a n ++ range_with_len (a + n) m
range_parts a zero m = let none : 0 + m ≡ m = omega arith in let at : a ≡ a + 0 = omega arith in ap (range_with_len a) none ∙ ap (λ b. range_with_len b m) at
range_parts a (suc n) m =
    let one : suc n + m ≡ suc (n + m) = omega arith in
    let at : a + 1 + n ≡ a + suc n = omega arith in
    ap (range_with_len a) one ∙ ap (λ l. a ∷ l) (range_parts (a + 1) n m ∙ ap (λ b. range_with_len (a + 1) n ++ range_with_len b m) at)

led_low : (k n : ℕ) → n < k → led_number k (n + 1) ≡ n
led_low k n low = let next : n + 1 ≡ suc n = omega arith in ap (led_number k) next ∙ ap (λ c. cond c n (suc n)) (lt-ltb n k low)

led_high : (k n : ℕ) → k ≤ n → led_number k (n + 1) ≡ n + 1
led_high k n high = let next : n + 1 ≡ suc n = omega arith in ap (led_number k) next ∙ ap (λ c. cond c n (suc n)) (le-ltb n k high) ∙ sym next

led_before : (k a n : ℕ) → a + n ≤ k → map (led_number k) (range_with_len (a + 1) n) ≡ range_with_len a n
led_before k a zero low = refl
led_before k a (suc n) low = ap₂ ◌∷◌ (led_low k a (omega (arith, low))) (led_before k (a + 1) n (omega (arith, low)))

led_behind : (k a n : ℕ) → k ≤ a → map (led_number k) (range_with_len (a + 1) n) ≡ range_with_len (a + 1) n
led_behind k a zero low = refl
led_behind k a (suc n) low = ap₂ ◌∷◌ (led_high k a low) (led_behind k (a + 1) n (omega (arith, low)))

-- the number of the first group's step, those before it, and those behind
module _ (k m : ℕ) where
  abbrev before : List ℕ
  before = range_with_len 0 k

  abbrev behind : List ℕ
  behind = range_with_len (k + 1) m

  led_all : map (led_number k) (range_with_len 0 (suc (k + m))) ≡ k ∷ (before ++ behind)
  led_all =
      let one : 0 + 1 + k ≡ k + 1 = omega arith in
      ap (λ l. k ∷ map (led_number k) l) (range_parts (0 + 1) k m) ∙ ap (λ l. k ∷ l) (map-append (led_number k) (range_with_len (0 + 1) k) (range_with_len (0 + 1 + k) m))
      ∙ ap₂ (λ (a b : List ℕ). k ∷ (a ++ b)) (led_before k 0 k (omega arith)) (ap (λ b. map (led_number k) (range_with_len b m)) one ∙ led_behind k k m (omega arith))

  all_parts : range_with_len 0 (suc (k + m)) ≡ before ++ (k ∷ behind)
  all_parts =
      let whole : suc (k + m) ≡ k + suc m = omega arith in
      let at : 0 + k ≡ k = omega arith in
      ap (range_with_len 0) whole ∙ range_parts 0 k (suc m) ∙ ap (λ b. before ++ range_with_len b (suc m)) at

  led_each : IsPermutation (map (led_number k) (range_with_len 0 (suc (k + m)))) (range_with_len 0 (suc (k + m)))
  led_each =
      subst (λ l. IsPermutation l (range_with_len 0 (suc (k + m)))) (sym led_all)
      (subst (IsPermutation (k ∷ (before ++ behind))) (append_assoc before (k ∷ []) behind ∙ sym all_parts)
      (IsPermutation-append_left behind (k ∷ before) (before ++ k ∷ []) (IsPermutation-append_comm (k ∷ []) before)))

-- ---- a plan that fits

module _ (catalog : Tables) (y : Typed) where
  parted : (p : Plan) → fits catalog y p none ≡ true → AreIdle y (leading p) × (fits catalog y (grouped p) none ≡ true)
  unfolding fits
  parted Done fit = (tt, fit)
  parted (Then s p) fit = go (makes_group s) refl (and_parts (fits_step catalog y s none) (fits catalog y p (after_step s none)) fit) (parted p)
    where
      go : (c : Bool) → makes_group s ≡ c → (fits_step catalog y s none ≡ true) × (fits catalog y p (after_step s none) ≡ true)
          → (fits catalog y p none ≡ true → AreIdle y (leading p) × (fits catalog y (grouped p) none ≡ true))
          → AreIdle y (cond c [] (s ∷ leading p)) × (fits catalog y (cond c (Then s p) (grouped p)) none ≡ true)
      go true m parts on = (tt, fit)
      go false m parts on =
          let here = idle catalog y s m parts.0 in
          let rest = on (subst (λ k. fits catalog y p k ≡ true) (idle_after y s here none) parts.1) in
          ((here, rest.0), rest.1)

parts_whole : (p : Plan) → checked (leading p) (grouped p) ≡ p
parts_whole Done = refl
parts_whole (Then s p) = go (makes_group s) (parts_whole p)
  where
    go : (c : Bool) → checked (leading p) (grouped p) ≡ p → checked (cond c [] (s ∷ leading p)) (cond c (Then s p) (grouped p)) ≡ Then s p
    go true e = refl
    go false e = ap (Then s) e

-- there is no group, or the first step makes one
abbrev Starts : Plan → Type 0
Starts Done = Unit {0}
Starts (Then s p) = makes_group s ≡ true

starts : (p : Plan) → Starts (grouped p)
starts Done = tt
starts (Then s p) = go (makes_group s) refl (starts p)
  where
    go : (c : Bool) → makes_group s ≡ c → Starts (grouped p) → Starts (cond c (Then s p) (grouped p))
    go true m on = m
    go false m on = on

-- where the first group's step goes in front
module _ (catalog : Tables) (y : Typed) (p : Plan) (ts : List Step) (s : Step) (r : Plan) (is : checked ts (Then s r) ≡ p) (made : makes_group s ≡ true) (idles : AreIdle y ts) where
  abbrev front : Plan
  front = Then s (checked ts r)

  abbrev k : ℕ
  k = length ts

  abbrev order : List ℕ
  order = map (led_number k) (order_of y p)

  -- the steps behind it, as they run
  abbrev rs : List Step
  rs = steps_of (halved r)

  numbers : order_of y p ≡ order_of y front
  numbers = ap (order_of y) (sym is) ∙ sym (numbers_same y ts s r idles made)

  fits_front : fits catalog y (Then s r) none ≡ true → fits catalog y front none ≡ true
  unfolding fits
  fits_front fit =
      let parts = and_parts (fits_step catalog y s none) (fits catalog y r (after_step s none)) fit in
      ap₂ ◌&&◌ parts.0 (fits_behind y catalog ts r (after_step s none) idles parts.1)

  steps_are : steps_of (halved p) ≡ ts ++ s ∷ rs
  steps_are = ap (λ q. steps_of (halved q)) (sym is) ∙ ap steps_of (halved_before y ts s r idles made) ∙ steps_checked ts (Then s (halved r))

  front_are : steps_of (halved front) ≡ s ∷ (ts ++ rs)
  front_are = ap steps_of (halved_led y ts s r idles made) ∙ ap (λ l. s ∷ l) (steps_checked ts (halved r))

  same_order : in_order p order ≡ in_order front (order_of y front)
  same_order =
      ap (λ ss. steps (at_numbers ss order)) steps_are ∙ ap (λ ns. steps (at_numbers (ts ++ s ∷ rs) (map (led_number k) ns))) numbers
      ∙ ap steps (numbers_led ts s rs (order_of y front))
      ∙ ap (λ ss. steps (at_numbers ss (order_of y front))) (sym front_are)

  same_flags : flags_of y front ≡ flags_of y p
  same_flags = flags_led y ts s r idles ∙ sym (flags_before y ts s r idles) ∙ ap (flags_of y) is

  same_makers : filter makes_group (steps_of front) ≡ filter makes_group (steps_of p)
  same_makers = same_made y ts s r idles ∙ ap (λ q. filter makes_group (steps_of q)) is

  abbrev m : ℕ
  m = length rs

  long_front : length (steps_of (halved front)) ≡ suc (k + m)
  long_front = ap length front_are ∙ ap suc (length-append ts rs)

  long : length (steps_of (halved p)) ≡ suc (k + m)
  long = let next : k + suc m ≡ suc (k + m) = omega arith in ap length steps_are ∙ length-append ts (s ∷ rs) ∙ next

  -- it has the same steps
  front_has : IsPermutation (steps_of (halved front)) (steps_of (halved p))
  front_has =
      subst (λ l. IsPermutation l (steps_of (halved p))) (sym front_are)
      (subst (IsPermutation (s ∷ (ts ++ rs))) (append_assoc ts (s ∷ []) rs ∙ sym steps_are)
      (IsPermutation-append_left rs (s ∷ ts) (ts ++ s ∷ []) (IsPermutation-append_comm (s ∷ []) ts)))

  led_has : HasStepsOf (in_order front (order_of y front)) front → HasStepsOf (in_order p order) p
  led_has has = subst (λ q. IsPermutation (steps_of q) (steps_of (halved p))) (sym same_order) (IsPermutation-trans _ _ _ has front_has)

  led_arranged : IsArranged catalog y front (order_of y front) (flags_of y front) → IsArranged catalog y p order (flags_of y p)
  led_arranged at = record {
    each =
        subst (λ n. IsPermutation order (range_with_len 0 n)) (sym long)
        (IsPermutation-trans _ _ _
        (IsPermutation-map (led_number k) (order_of y p) (range_with_len 0 (suc (k + m)))
        (subst (λ ns. IsPermutation ns (range_with_len 0 (suc (k + m)))) (sym numbers) (subst (λ n. IsPermutation (order_of y front) (range_with_len 0 n)) long_front at.each)))
        (led_each k m));
    runs = subst (Runs catalog y) (sym same_order) at.runs;
    bound = bound_permuted (in_order p order) (halved p) (led_has at.has) ∙ after_halved p none;
    has = led_has at.has;
    begins = ap Rattle.gq_arrange.specs.Law.begins same_order ∙ at.begins;
    enough =
        subst (λ flat. AreFlatEnough catalog y (flag flat) 0 (groups_of (in_order p order)) none) same_flags
        (subst (λ q. AreFlatEnough catalog y (flag (flags_of y front)) 0 (groups_of q) none) (sym same_order) at.enough);
    makers = ap (λ q. filter makes_group (steps_of q)) same_order ∙ at.makers ∙ same_makers;
    count = ap (λ q. length (groups_of q)) same_order ∙ at.count ∙ ap length same_flags;
  }

  -- ---- the steps that make groups, by their numbers

  told : (n : ℕ) → makes_at (steps_of (halved p)) (led_number k n) ≡ makes_at (steps_of (halved front)) n
  told n =
      ap (λ ss. makes_at ss (led_number k n)) steps_are
      ∙ ap makes_group (sym (unwrap_or-slice_get (ts ++ s ∷ rs) (led_number k n) (Keep 0)) ∙ ap (λ o. unwrap_or o (Keep 0)) (number_led ts s rs n) ∙ unwrap_or-slice_get (s ∷ (ts ++ rs)) n (Keep 0))
      ∙ ap (λ ss. makes_at ss n) (sym front_are)

  filter_led : (f h : ℕ → Bool) → ((n : ℕ) → f (led_number k n) ≡ h n) → (ns : List ℕ) → filter f (map (led_number k) ns) ≡ map (led_number k) (filter h ns)
  filter_led f h same [] = refl
  filter_led f h same (n ∷ ns) = go (h n) (same n) (filter_led f h same ns)
    where
      go : (c : Bool) → f (led_number k n) ≡ c → filter f (map (led_number k) ns) ≡ map (led_number k) (filter h ns)
          → filter f (map (led_number k) (n ∷ ns)) ≡ map (led_number k) (cond c (n ∷ filter h ns) (filter h ns))
      go true e on = ap (λ c. cond c (led_number k n ∷ filter f (map (led_number k) ns)) (filter f (map (led_number k) ns))) e ∙ ap (λ l. led_number k n ∷ l) on
      go false e on = ap (λ c. cond c (led_number k n ∷ filter f (map (led_number k) ns)) (filter f (map (led_number k) ns))) e ∙ on

  none_before : filter (makes_at (steps_of (halved p))) (range_with_len 0 k) ≡ []
  none_before = from ts 0 idles (λ j. (let at : 0 + j ≡ j = omega arith in ap (makes_at (steps_of (halved p))) at) ∙ ap (λ ss. makes_at ss j) steps_are)
    where
      from : (us : List Step) (a : ℕ) → AreIdle y us → ((j : ℕ) → makes_at (steps_of (halved p)) (a + j) ≡ makes_at (us ++ s ∷ rs) j) → filter (makes_at (steps_of (halved p))) (range_with_len a (length us)) ≡ []
      from [] a h at = refl
      from (u ∷ us) a h at =
          let here : a ≡ a + 0 = omega arith in
          ap (λ c. cond c (a ∷ filter (makes_at (steps_of (halved p))) (range_with_len (a + 1) (length us))) (filter (makes_at (steps_of (halved p))) (range_with_len (a + 1) (length us)))) (ap (makes_at (steps_of (halved p))) here ∙ at 0 ∙ idle_small y u h.0)
          ∙ from us (a + 1) h.1 (λ j. let next : a + 1 + j ≡ a + suc j = omega arith in ap (makes_at (steps_of (halved p))) next ∙ at (suc j))

  led_makers : filter (makes_at (steps_of (halved p))) order ≡ filter (makes_at (steps_of (halved p))) (range_with_len 0 (length (steps_of (halved p))))
  led_makers =
      let f = makes_at (steps_of (halved p)) in
      ap (λ ns. filter f (map (led_number k) ns)) numbers ∙ filter_led f (makes_at (steps_of (halved front))) told (order_of y front) ∙ ap (map (led_number k)) (makers_in_order y front)
      ∙ sym (filter_led f (makes_at (steps_of (halved front))) told (range_with_len 0 (length (steps_of (halved front)))))
      ∙ ap (λ n. filter f (map (led_number k) (range_with_len 0 n))) long_front ∙ ap (filter f) (led_all k m)
      ∙ ap (λ l. cond (f k) (k ∷ l) l) (filter-append f (range_with_len 0 k) (range_with_len (k + 1) m) ∙ ap (λ l. l ++ filter f (range_with_len (k + 1) m)) none_before)
      ∙ sym (ap (λ l. l ++ filter f (k ∷ range_with_len (k + 1) m)) none_before)
      ∙ sym (filter-append f (range_with_len 0 k) (k ∷ range_with_len (k + 1) m))
      ∙ ap (filter f) (sym (all_parts k m)) ∙ ap (λ n. filter f (range_with_len 0 n)) (sym long)

-- ---- a plan without groups has no step but such tests

first_counts : (s : Step) (r : Plan) → makes_group s ≡ true → 0 < (places (Then s r)).count
unfolding places_after
first_counts s r made = omega (arith, count_made s nowhere made, count_grows r (place_step s nowhere))

module _ (catalog : Tables) (y : Typed) (p : Plan) (fit : Fits catalog y p) (none_made : (places p).count ≡ 0) where
  pub idle_all : AreIdle y (leading p)
  idle_all = (parted catalog y p fit).0

  pub leading_all : checked (leading p) Done ≡ p
  leading_all = go (grouped p) refl (starts p)
    where
      go : (q : Plan) → grouped p ≡ q → Starts q → checked (leading p) Done ≡ p
      go Done e first = ap (checked (leading p)) (sym e) ∙ parts_whole p
      go (Then s r) e first =
          let same : places p ≡ places (Then s r) = ap places (sym (parts_whole p) ∙ ap (checked (leading p)) e) ∙ same_places y (leading p) (Then s r) nowhere idle_all in
          let some = first_counts s r first in
          absurd (omega (arith, ap (λ (w : Places). w.count) same, none_made, some))

-- ---- the laws

no_group : (y : Typed) (p : Plan) → AreIdle y (leading p) → grouped p ≡ Done → (places p).count ≡ 0
unfolding places_after
no_group y p idles e = ap (λ q. (places q).count) (sym (parts_whole p) ∙ ap (checked (leading p)) e) ∙ ap (λ (w : Places). w.count) (same_places y (leading p) Done nowhere idles)

module _ (catalog : Tables) (y : Typed) (p : Plan) (fit : Fits catalog y p) (some : 0 < (places p).count) where
  idles : AreIdle y (leading p)
  idles = (parted catalog y p fit).0

  -- what is told of it where the first group's step goes in front
  record Front : Type 0 where
    step : Step
    rest : Plan
    is : checked (leading p) (Then step rest) ≡ p
    made : makes_group step ≡ true
    fits : fits catalog y (Then step rest) none ≡ true

  front_of : Front
  front_of = go (grouped p) refl (starts p) (parted catalog y p fit).1
    where
      go : (q : Plan) → grouped p ≡ q → Starts q → fits catalog y q none ≡ true → Front
      go Done e first fit_q = absurd (let none = no_group y p idles e in omega (arith, some, none))
      go (Then s r) e first fit_q = record { step = s; rest = r; is = ap (checked (leading p)) (sym e) ∙ parts_whole p; made = first; fits = fit_q }

  abbrev front_plan : Plan
  front_plan = Then front_of.step (checked (leading p) front_of.rest)

  front_fits : fits catalog y front_plan none ≡ true
  front_fits = fits_front catalog y p (leading p) front_of.step front_of.rest front_of.is front_of.made idles front_of.fits

  front_arranged : IsArranged catalog y front_plan (order_of y front_plan) (flags_of y front_plan)
  front_arranged = arranged_first catalog y front_plan front_fits front_of.made

  plan_arranged : IsArranged catalog y p (led_order y p) (flags_of y p)
  plan_arranged = led_arranged catalog y p (leading p) front_of.step front_of.rest front_of.is front_of.made idles front_arranged

  -- the steps that make groups stand in the order as they stand in the plan
  pub makers_led : filter (makes_at (steps_of (halved p))) (led_order y p) ≡ filter (makes_at (steps_of (halved p))) (range_with_len 0 (length (steps_of (halved p))))
  makers_led = led_makers catalog y p (leading p) front_of.step front_of.rest front_of.is front_of.made idles

pub arranged_plans : ArrangedPlansFit
arranged_plans catalog y p fit some = plan_arranged catalog y p fit some
