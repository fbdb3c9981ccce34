-- What a search owes, and how its moves change that.
use Rattle.std.proofs.Common.{◌≡◌, ℕ, zero, suc, ◌+◌, ◌-◌, ◌<◌, ◌≤◌, nat_eq, Bool, true, false, not, ◌&&◌, ◌||◌, cond, Option, Some, None, List, [], ◌∷◌, ◌++◌, map, flat_map, filter, length, take, refl, sym, ap, ap₂, ◌∙◌, arith, inl, inr, ◌⊎◌}
use Rattle.std.specs.List.{list_any}
use Rattle.std.proofs.lemmas.Bool.{cases_lt}
use Rattle.std.proofs.lemmas.Bool.Decides.{nat_tests}
use Rattle.std.proofs.lemmas.List.{append_assoc, append-nil, map-append, map-id, take_more}
use Rattle.std.proofs.lemmas.List.Elements.{filter-append}
use Rattle.std.proofs.lemmas.List.Folds.{list_any-append}
use Rattle.std.proofs.Math.Bool.{or_assoc, or_comm, or-false}
use Rattle.gq_base.specs.declared.NodeId.{NodeId}
use Rattle.gq_base.specs.declared.RelId.{RelId}
use Rattle.gq_plan.specs.Assignments.{all_rels, same_rel}
use Rattle.gq_plan.specs.Meaning.{far}
use Rattle.gq_law_trails.proofs.Bounded.{filter_map, short_walks_end_nowhere}
use Rattle.gq_law_trails.specs.Bounds.{AreBounds, comes, may_end_at}
use Rattle.gq_law_trails.specs.Walks.{end_of, may_follow, pred, walks}
use Rattle.gq_hops.specs.Walking.{Course}
use Rattle.gq_hops.specs.Levels.{is_met}
use Rattle.gq_hops.specs.steps.Hops.{left_at}
use Rattle.gq_hops.specs.steps.Searches.{Run, after, ahead, behind, left_in, level_at, onto, rel_at, taken}
use Rattle.gq_hops.specs.declared.follow.Frame.{Frame}
use Rattle.gq_hops.proofs.Hopping.{all_met}

-- ---- lists

map_map : {A B C : Type 0} (f : B → C) (h : A → B) (xs : List A) → map f (map h xs) ≡ map (λ x. f (h x)) xs
map_map f h [] = refl
map_map f h (x ∷ xs) = ap (λ l. f (h x) ∷ l) (map_map f h xs)

map_alike : {A B : Type 0} (f h : A → B) → ((x : A) → f x ≡ h x) → (xs : List A) → map f xs ≡ map h xs
map_alike f h same [] = refl
map_alike f h same (x ∷ xs) = ap₂ (λ y l. y ∷ l) (same x) (map_alike f h same xs)

filter_twice : {A : Type 0} (p q : A → Bool) (xs : List A) → filter p (filter q xs) ≡ filter (λ x. q x && p x) xs
filter_twice p q [] = refl
filter_twice p q (x ∷ xs) = elim (q x) as (λ b. filter p (cond b (x ∷ filter q xs) (filter q xs)) ≡ cond (b && p x) (x ∷ filter (λ y. q y && p y) xs) (filter (λ y. q y && p y) xs)) [
  | true ↦ ap (λ ys. cond (p x) (x ∷ ys) ys) (filter_twice p q xs)
  | false ↦ filter_twice p q xs
]

filter_flat : {A B : Type 0} (p : B → Bool) (f : A → List B) (xs : List A) → filter p (flat_map f xs) ≡ flat_map (λ x. filter p (f x)) xs
filter_flat p f [] = refl
filter_flat p f (x ∷ xs) = filter-append p (f x) (flat_map f xs) ∙ ap (λ l. filter p (f x) ++ l) (filter_flat p f xs)

filter_alike : {A : Type 0} (p q : A → Bool) → ((x : A) → p x ≡ q x) → (xs : List A) → filter p xs ≡ filter q xs
filter_alike p q same [] = refl
filter_alike p q same (x ∷ xs) = ap₂ (λ b l. cond b (x ∷ l) l) (same x) (filter_alike p q same xs)

-- ---- walks by what is left at a node

abbrev pub fresh_left : Course → NodeId → List RelId
fresh_left k at = left_at k.graph k.kind k.way at 0 0

hops_are : (k : Course) (at : NodeId) (used : List RelId)
    → filter (may_follow k.graph k.kind k.way (Some at) used) (all_rels k.graph) ≡ filter (λ r. not (list_any (same_rel r) used)) (fresh_left k at)
hops_are k at used =
    sym (filter_twice (λ r. not (list_any (same_rel r) used)) (is_met k.graph k.kind k.way (Some at)) (all_rels k.graph))
    ∙ ap (filter (λ r. not (list_any (same_rel r) used))) (all_met k.graph k.kind k.way at)

abbrev pub stop : ℕ → List RelId → List (List RelId)
stop low l = cond (nat_eq low 0) (l ∷ []) []

walks_are : (k : Course) (low high : ℕ) (at : NodeId) (used : List RelId)
    → walks k.graph k.kind k.way low high (Some at) used ≡ stop low [] ++ after k low high used (fresh_left k at)
unfolding walks after
walks_are k low zero at used = sym (append-nil (stop low []))
walks_are k low (suc high) at used =
    ap (λ rs. stop low [] ++ flat_map (λ r. map (λ l. r ∷ l) (walks k.graph k.kind k.way (pred low) high (far k.graph k.way r) (r ∷ used))) rs) (hops_are k at used)

module _ (k : Course) (low : ℕ) (used : List RelId) (r : RelId) (rs : List RelId) where
  after_first : (high h : ℕ) → high ≡ suc h → list_any (same_rel r) used ≡ false
      → after k low high used (r ∷ rs) ≡ map (λ l. r ∷ l) (walks k.graph k.kind k.way (pred low) h (far k.graph k.way r) (r ∷ used)) ++ after k low high used rs
  unfolding after
  after_first high h e free = rw (e, free) refl

  after_used : (high : ℕ) → list_any (same_rel r) used ≡ true → after k low high used (r ∷ rs) ≡ after k low high used rs
  unfolding after
  after_used zero stands = refl
  after_used (suc h) stands = rw stands refl

after_none : (k : Course) (low high : ℕ) (used : List RelId) → after k low high used [] ≡ []
unfolding after
after_none k low zero used = refl
after_none k low (suc h) used = refl

after_zero : (k : Course) (low high : ℕ) (used rs : List RelId) → high ≡ 0 → after k low high used rs ≡ []
unfolding after
after_zero k low high used rs e = rw e refl

-- ---- only what lies below a depth counts

abbrev pub AreSame : List RelId → List RelId → ℕ → Type 0
AreSame new rels n = (i : ℕ) → i < n → rel_at new i ≡ rel_at rels i

abbrev pub AreSameLevels : List Frame → List Frame → ℕ → Type 0
AreSameLevels others levels n = (i : ℕ) → i < n → level_at others i ≡ level_at levels i

onto_alike : (rels new : List RelId) (n : ℕ) → AreSame new rels n → (l : List RelId) → onto new n l ≡ onto rels n l
unfolding onto
onto_alike rels new zero same l = refl
onto_alike rels new (suc n) same l = ap (λ r. onto new n (r ∷ l)) (same n (omega arith)) ∙ onto_alike rels new n (λ i low. same i (omega arith)) (rel_at rels n ∷ l)

taken_alike : (used rels new : List RelId) (n : ℕ) → AreSame new rels n → taken used new n ≡ taken used rels n
unfolding taken
taken_alike used rels new zero same = refl
taken_alike used rels new (suc n) same = ap₂ (λ r l. r ∷ l) (same n (omega arith)) (taken_alike used rels new n (λ i low. same i (omega arith)))

-- the walk, and the relationships in front of it
pub onto_is : (rels : List RelId) (n : ℕ) → n ≤ length rels → (l : List RelId) → onto rels n l ≡ take n rels ++ l
unfolding onto
onto_is rels zero low l = refl
onto_is rels (suc n) low l =
    let next : suc n ≡ n + 1 = omega arith in
    onto_is rels n (omega arith) (rel_at rels n ∷ l)
    ∙ sym (append_assoc (take n rels) (rel_at rels n ∷ []) l)
    ∙ ap (λ m. m ++ l) (sym (ap (λ m. take m rels) next ∙ take_more rels n (record { table = 0; row = 0 }) (omega arith)))

pub taken_has : (used rels : List RelId) (n : ℕ) → n ≤ length rels → (r : RelId) → list_any (same_rel r) (taken used rels n) ≡ (list_any (same_rel r) (take n rels) || list_any (same_rel r) used)
unfolding taken
taken_has used rels zero low r = refl
taken_has used rels (suc n) low r =
    let next : suc n ≡ n + 1 = omega arith in
    let here = same_rel r (rel_at rels n) in
    let before = list_any (same_rel r) (take n rels) in
    let after = list_any (same_rel r) used in
    ap (λ b. here || b) (taken_has used rels n (omega arith) r)
    ∙ sym (or_assoc here before after)
    ∙ ap (λ b. b || after) (or_comm here before ∙ ap (λ b. before || b) (sym (or-false here))
    ∙ sym (ap (λ m. list_any (same_rel r) (take m rels)) next ∙ ap (list_any (same_rel r)) (take_more rels n (record { table = 0; row = 0 }) (omega arith)) ∙ list_any-append (same_rel r) (take n rels) (rel_at rels n ∷ [])))

-- where a walk ends
end_onto : (k : Course) (rels : List RelId) (n : ℕ) (r : RelId) (l : List RelId) (at : Option NodeId) → end_of k.graph k.way at (onto rels n (r ∷ l)) ≡ end_of k.graph k.way (far k.graph k.way r) l
unfolding onto
end_onto k rels zero r l at = refl
end_onto k rels (suc n) r l at = end_onto k rels n (rel_at rels n) (r ∷ l) at

pub ends_at : (k : Course) (rels : List RelId) (n : ℕ) (at : Option NodeId) → end_of k.graph k.way at (onto rels (suc n) []) ≡ far k.graph k.way (rel_at rels n)
unfolding onto
ends_at k rels n at = end_onto k rels n (rel_at rels n) [] at

-- where a walk ends does not hang on its beginning, if it is not empty
module _ (k : Course) (d : NodeId → ℕ) (low high : ℕ) (at : Option NodeId) (used : List RelId) where
  abbrev each_from : RelId → List (List RelId)
  each_from r = map (λ l. r ∷ l) (walks k.graph k.kind k.way (pred low) high (far k.graph k.way r) (r ∷ used))

  any_from : (rs : List RelId) → filter (comes k.graph k.way d None) (flat_map each_from rs) ≡ filter (comes k.graph k.way d at) (flat_map each_from rs)
  any_from [] = refl
  any_from (r ∷ rs) =
      filter-append (comes k.graph k.way d None) (each_from r) (flat_map each_from rs)
      ∙ ap₂ (λ l m. l ++ m)
      (filter_map (comes k.graph k.way d None) (λ l. r ∷ l) (walks k.graph k.kind k.way (pred low) high (far k.graph k.way r) (r ∷ used))
      ∙ sym (filter_map (comes k.graph k.way d at) (λ l. r ∷ l) (walks k.graph k.kind k.way (pred low) high (far k.graph k.way r) (r ∷ used))))
      (any_from rs)
      ∙ sym (filter-append (comes k.graph k.way d at) (each_from r) (flat_map each_from rs))

pub from_any : (k : Course) (d : NodeId → ℕ) (low high : ℕ) (at : Option NodeId) (used : List RelId) → 1 ≤ low
    → filter (comes k.graph k.way d None) (walks k.graph k.kind k.way low high at used) ≡ filter (comes k.graph k.way d at) (walks k.graph k.kind k.way low high at used)
unfolding walks
from_any k d low zero at used some = let no : nat_eq low 0 ≡ false = grind (arith, nat_tests, some) in rw no refl
from_any k d low (suc high) at used some =
    let no : nat_eq low 0 ≡ false = grind (arith, nat_tests, some) in
    rw no (any_from k d low high at used (filter (may_follow k.graph k.kind k.way at used) (all_rels k.graph)))

module _ (c : Run) where
  ahead_alike : (rels new : List RelId) (levels others : List Frame) (n : ℕ) → AreSame new rels n → level_at others n ≡ level_at levels n → ahead c new others n ≡ ahead c rels levels n
  ahead_alike rels new levels others n same level =
      map_alike (onto new n) (onto rels n) (onto_alike rels new n same) (after c.course (c.course.low - n) (c.course.high - n) (taken c.used new n) (left_in c.course (level_at others n)))
      ∙ ap (map (onto rels n)) (ap₂ (λ used l. after c.course (c.course.low - n) (c.course.high - n) used (left_in c.course l)) (taken_alike c.used rels new n same) level)

  behind_alike : (rels new : List RelId) (levels others : List Frame) (n : ℕ) → AreSame new rels n → AreSameLevels others levels n → behind c new others n ≡ behind c rels levels n
  unfolding behind
  behind_alike rels new levels others zero same alike = refl
  behind_alike rels new levels others (suc n) same alike =
      ap₂ (λ l m. l ++ m) (ahead_alike rels new levels others n (λ i low. same i (omega arith)) (alike n (omega arith)))
      (behind_alike rels new levels others n (λ i low. same i (omega arith)) (λ i low. alike i (omega arith)))

  -- ---- moves

  abbrev low_at : ℕ → ℕ
  low_at n = c.course.low - n

  abbrev high_at : ℕ → ℕ
  high_at n = c.course.high - n

  pub begun : (rels : List RelId) (levels : List Frame) (start : NodeId) → 1 ≤ c.course.low → left_in c.course (level_at levels 0) ≡ fresh_left c.course start
      → walks c.course.graph c.course.kind c.course.way c.course.low c.course.high (Some start) c.used ≡ behind c rels levels 1
  unfolding behind onto taken
  begun rels levels start some is =
      let none : nat_eq c.course.low 0 ≡ false = grind (arith, nat_tests, some) in
      let low : c.course.low ≡ c.course.low - 0 = omega arith in
      let high : c.course.high ≡ c.course.high - 0 = omega arith in
      walks_are c.course c.course.low c.course.high start c.used
      ∙ ap (λ b. cond b ([] ∷ []) [] ++ after c.course c.course.low c.course.high c.used (fresh_left c.course start)) none
      ∙ ap₂ (λ m n. after c.course m n c.used (fresh_left c.course start)) low high
      ∙ ap (after c.course (low_at 0) (high_at 0) c.used) (sym is)
      ∙ sym (map-id (after c.course (low_at 0) (high_at 0) c.used (left_in c.course (level_at levels 0))))
      ∙ sym (append-nil (ahead c rels levels 0))

  -- nothing is left at the end of the walk
  pub back : (rels : List RelId) (levels : List Frame) (d : ℕ) → (c.course.high ≤ d) ⊎ (left_in c.course (level_at levels d) ≡ []) → behind c rels levels (suc d) ≡ behind c rels levels d
  unfolding behind
  back rels levels d (inl high) =
      let none : high_at d ≡ 0 = omega arith in
      ap (λ l. map (onto rels d) l ++ behind c rels levels d) (after_zero c.course (low_at d) (high_at d) (taken c.used rels d) (left_in c.course (level_at levels d)) none)
  back rels levels d (inr none) =
      ap (λ l. map (onto rels d) l ++ behind c rels levels d)
      (ap (after c.course (low_at d) (high_at d) (taken c.used rels d)) none ∙ after_none c.course (low_at d) (high_at d) (taken c.used rels d))

  -- the next relationship is used
  pub skipped : (rels : List RelId) (levels others : List Frame) (d : ℕ) (r : RelId) → left_in c.course (level_at levels d) ≡ r ∷ left_in c.course (level_at others d)
      → list_any (same_rel r) (taken c.used rels d) ≡ true → AreSameLevels others levels d → behind c rels levels (suc d) ≡ behind c rels others (suc d)
  unfolding behind
  skipped rels levels others d r first stands alike =
      ap₂ (λ l m. map (onto rels d) l ++ m)
      (ap (after c.course (low_at d) (high_at d) (taken c.used rels d)) first ∙ after_used c.course (low_at d) (taken c.used rels d) r (left_in c.course (level_at others d)) (high_at d) stands)
      (sym (behind_alike rels rels levels others d (λ i low. refl) alike))

  stop_onto : (b : Bool) (f : List RelId → List RelId) → map f (cond b ([] ∷ []) []) ≡ cond b (f [] ∷ []) []
  stop_onto true f = refl
  stop_onto false f = refl

  module _ (rels new : List RelId) (levels others : List Frame) (d : ℕ) (r : RelId) (node : NodeId) (low : d < c.course.high)
      (first : left_in c.course (level_at levels d) ≡ r ∷ left_in c.course (level_at others d)) (free : list_any (same_rel r) (taken c.used rels d) ≡ false) (leads : far c.course.graph c.course.way r ≡ Some node)
      (is : rel_at new d ≡ r) (same : AreSame new rels d) (alike : AreSameLevels others levels d) (next : suc d < c.course.high → left_in c.course (level_at others (suc d)) ≡ fresh_left c.course node) where
    abbrev here : List RelId
    here = taken c.used rels d

    abbrev more : List (List RelId)
    more = walks c.course.graph c.course.kind c.course.way (low_at (suc d)) (high_at (suc d)) (Some node) (r ∷ here)

    pred_low : pred (low_at d) ≡ low_at (suc d)
    pred_low = less (low_at d) ∙ omega arith
      where
        less : (n : ℕ) → pred n ≡ n - 1
        less zero = refl
        less (suc n) = omega arith

    one_more : high_at d ≡ suc (high_at (suc d))
    one_more = omega (arith, low)

    -- what the level has: the walks that begin with the relationship, and what is left
    parted : after c.course (low_at d) (high_at d) here (left_in c.course (level_at levels d)) ≡ map (λ l. r ∷ l) more ++ after c.course (low_at d) (high_at d) here (left_in c.course (level_at others d))
    parted =
        ap (after c.course (low_at d) (high_at d) here) first
        ∙ after_first c.course (low_at d) here r (left_in c.course (level_at others d)) (high_at d) (high_at (suc d)) one_more free
        ∙ ap₂ (λ n at. map (λ l. r ∷ l) (walks c.course.graph c.course.kind c.course.way n (high_at (suc d)) at (r ∷ here)) ++ after c.course (low_at d) (high_at d) here (left_in c.course (level_at others d))) pred_low leads

    now_taken : r ∷ here ≡ taken c.used new (suc d)
    unfolding taken
    now_taken = ap₂ (λ q l. q ∷ l) (sym is) (sym (taken_alike c.used rels new d same))

    -- the level below
    level_below : after c.course (low_at (suc d)) (high_at (suc d)) (r ∷ here) (fresh_left c.course node) ≡ after c.course (low_at (suc d)) (high_at (suc d)) (taken c.used new (suc d)) (left_in c.course (level_at others (suc d)))
    level_below = go (cases_lt (suc d) c.course.high)
      where
        go : (suc d < c.course.high) ⊎ (c.course.high ≤ suc d)
            → after c.course (low_at (suc d)) (high_at (suc d)) (r ∷ here) (fresh_left c.course node) ≡ after c.course (low_at (suc d)) (high_at (suc d)) (taken c.used new (suc d)) (left_in c.course (level_at others (suc d)))
        go (inl more) = ap₂ (λ used rs. after c.course (low_at (suc d)) (high_at (suc d)) used rs) now_taken (sym (next more))
        go (inr high) =
            let none : high_at (suc d) ≡ 0 = omega arith in
            after_zero c.course (low_at (suc d)) (high_at (suc d)) (r ∷ here) (fresh_left c.course node) none
            ∙ sym (after_zero c.course (low_at (suc d)) (high_at (suc d)) (taken c.used new (suc d)) (left_in c.course (level_at others (suc d))) none)

    more_is : map (onto rels d) (map (λ l. r ∷ l) more) ≡ stop (low_at (suc d)) (onto new (suc d) []) ++ ahead c new others (suc d)
    unfolding onto
    more_is =
        map_map (onto rels d) (λ l. r ∷ l) more
        ∙ map_alike (λ l. onto rels d (r ∷ l)) (onto new (suc d)) (λ l. ap (λ q. onto rels d (q ∷ l)) (sym is) ∙ sym (onto_alike rels new d same (rel_at new d ∷ l))) more
        ∙ ap (map (onto new (suc d))) (walks_are c.course (low_at (suc d)) (high_at (suc d)) node (r ∷ here))
        ∙ map-append (onto new (suc d)) (stop (low_at (suc d)) []) (after c.course (low_at (suc d)) (high_at (suc d)) (r ∷ here) (fresh_left c.course node))
        ∙ ap₂ (λ l m. l ++ map (onto new (suc d)) m) (stop_onto (nat_eq (low_at (suc d)) 0) (onto new (suc d))) level_below

    -- the walk is longer
    pub down : behind c rels levels (suc d) ≡ stop (low_at (suc d)) (onto new (suc d) []) ++ behind c new others (suc (suc d))
    unfolding behind
    down =
        ap (λ l. map (onto rels d) l ++ behind c rels levels d) parted
        ∙ ap (λ l. l ++ behind c rels levels d) (map-append (onto rels d) (map (λ l. r ∷ l) more) (after c.course (low_at d) (high_at d) here (left_in c.course (level_at others d))))
        ∙ ap (λ l. (l ++ ahead c rels others d) ++ behind c rels levels d) more_is
        ∙ ap₂ (λ l m. ((stop (low_at (suc d)) (onto new (suc d) []) ++ ahead c new others (suc d)) ++ l) ++ m)
        (sym (ahead_alike rels new others others d same refl)) (sym (behind_alike rels new levels others d same alike))
        ∙ append_assoc (stop (low_at (suc d)) (onto new (suc d) []) ++ ahead c new others (suc d)) (ahead c new others d) (behind c new others d)
        ∙ append_assoc (stop (low_at (suc d)) (onto new (suc d) [])) (ahead c new others (suc d)) (ahead c new others d ++ behind c new others d)

  -- ---- walks that end where they may

  abbrev kept : List (List RelId) → List (List RelId)
  kept ls = filter (comes c.course.graph c.course.way c.bounds None) ls

  -- the next relationship leads to a node from which a walk is too short
  module _ (are : AreBounds c.course.graph c.course.kind c.course.way c.bounds) (rels : List RelId) (levels others : List Frame) (d : ℕ) (r : RelId) (node : NodeId) (low : d < c.course.high)
      (first : left_in c.course (level_at levels d) ≡ r ∷ left_in c.course (level_at others d)) (free : list_any (same_rel r) (taken c.used rels d) ≡ false) (leads : far c.course.graph c.course.way r ≡ Some node)
      (alike : AreSameLevels others levels d) (short : c.course.high ≤ c.bounds node + d) where
    abbrev used_now : List RelId
    used_now = taken c.used rels d

    abbrev beyond : List (List RelId)
    beyond = walks c.course.graph c.course.kind c.course.way (pred (low_at d)) (high_at (suc d)) (far c.course.graph c.course.way r) (r ∷ used_now)

    abbrev others_left : List (List RelId)
    others_left = after c.course (low_at d) (high_at d) used_now (left_in c.course (level_at others d))

    high_more : high_at d ≡ suc (high_at (suc d))
    high_more = omega (arith, low)

    apart : after c.course (low_at d) (high_at d) used_now (left_in c.course (level_at levels d)) ≡ map (λ l. r ∷ l) beyond ++ others_left
    apart =
        ap (after c.course (low_at d) (high_at d) used_now) first
        ∙ after_first c.course (low_at d) used_now r (left_in c.course (level_at others d)) (high_at d) (high_at (suc d)) high_more free

    beyond_none : filter (comes c.course.graph c.course.way c.bounds (far c.course.graph c.course.way r)) beyond ≡ []
    beyond_none =
        ap (λ at. filter (comes c.course.graph c.course.way c.bounds at) (walks c.course.graph c.course.kind c.course.way (pred (low_at d)) (high_at (suc d)) at (r ∷ used_now))) leads
        ∙ short_walks_end_nowhere c.course.graph c.course.kind c.course.way c.bounds are (pred (low_at d)) (high_at (suc d)) node (r ∷ used_now) (omega (arith, low, short))

    none_kept : kept (map (onto rels d) (map (λ l. r ∷ l) beyond)) ≡ []
    none_kept =
        filter_map (comes c.course.graph c.course.way c.bounds None) (onto rels d) (map (λ l. r ∷ l) beyond)
        ∙ ap (map (onto rels d))
        (filter_map (λ l. comes c.course.graph c.course.way c.bounds None (onto rels d l)) (λ l. r ∷ l) beyond
        ∙ ap (map (λ l. r ∷ l))
        (filter_alike (λ l. comes c.course.graph c.course.way c.bounds None (onto rels d (r ∷ l))) (comes c.course.graph c.course.way c.bounds (far c.course.graph c.course.way r))
        (λ l. ap (may_end_at c.bounds) (end_onto c.course rels d r l None)) beyond
        ∙ beyond_none))

    pub far_off : kept (behind c rels levels (suc d)) ≡ kept (behind c rels others (suc d))
    unfolding behind
    far_off =
        ap (λ l. kept (map (onto rels d) l ++ behind c rels levels d)) apart
        ∙ ap (λ l. kept (l ++ behind c rels levels d)) (map-append (onto rels d) (map (λ l. r ∷ l) beyond) others_left)
        ∙ ap kept (append_assoc (map (onto rels d) (map (λ l. r ∷ l) beyond)) (map (onto rels d) others_left) (behind c rels levels d))
        ∙ filter-append (comes c.course.graph c.course.way c.bounds None) (map (onto rels d) (map (λ l. r ∷ l) beyond)) (map (onto rels d) others_left ++ behind c rels levels d)
        ∙ ap₂ (λ l m. l ++ m) none_kept (ap (λ m. kept (map (onto rels d) others_left ++ m)) (sym (behind_alike rels rels levels others d (λ i less. refl) alike)))
