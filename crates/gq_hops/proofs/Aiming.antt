-- How bounds are found, backward from the node where walks may end.
use Rattle.std.proofs.Common.{◌≡◌, ℕ, zero, suc, ◌+◌, ◌<◌, ◌≤◌, nat_eq, Bool, true, false, not, cond, Some, List, [], ◌∷◌, ◌++◌, filter, length, refl, sym, ap, ◌∙◌, subst, arith, inl, inr, ◌⊎◌}
use Rattle.std.specs.Prelude.{slice_get}
use Rattle.std.specs.List.{AllByRecursion}
use Rattle.std.proofs.lemmas.Bool.{cases_lt}
use Rattle.std.proofs.lemmas.Bool.Decides.{nat_tests}
use Rattle.std.proofs.lemmas.Option.{slice_get_within}
use Rattle.gq_base.specs.Plain.{Graph}
use Rattle.gq_base.specs.declared.NodeId.{NodeId}
use Rattle.gq_base.specs.declared.RelId.{RelId}
use Rattle.gq_base.specs.declared.direction.Direction.{Direction}
use Rattle.gq_law_trails.specs.Bounds.{AreBounds, IsBounded}
use Rattle.gq_law_trails.specs.Walks.{is_of_type}
use Rattle.gq_marks.specs.Marking.{AreKnown, IsSpread, Marking, bound_by, bound_of, is_marked, mark_at}
use Rattle.gq_plan.specs.Assignments.{all_rels}
use Rattle.gq_plan.specs.Meaning.{far, near}
use Rattle.gq_plan.proofs.Each.{each_then}
use Rattle.gq_hops.specs.steps.Aims.{IsAimed, IsSettled}

-- ---- lists

pub all_from : {X : Type 0} (P : X → Type 0) (xs : List X) → ((k : ℕ) (x : X) → slice_get xs k ≡ Some x → P x) → AllByRecursion P xs
all_from P [] h = tt
all_from P (x ∷ xs) h = (h zero x refl, all_from P xs (λ k y is. h (suc k) y is))

one_is : {X : Type 0} (x y : X) → Some x ≡ Some y → x ≡ y
one_is x y e = cc e

pub at_place : {X : Type 0} (P : X → Type 0) (xs : List X) → AllByRecursion P xs → (k : ℕ) (x : X) → slice_get xs k ≡ Some x → P x
at_place P [] all k x is = absurd (cc is)
at_place P (y ∷ ys) all zero x is = subst P (one_is y x is) all.0
at_place P (y ∷ ys) all (suc k) x is = at_place P ys all.1 k x is

pub at_filter : {X : Type 0} (P : X → Type 0) (q : X → Bool) (xs : List X) → AllByRecursion P (filter q xs) → (k : ℕ) (x : X) → slice_get xs k ≡ Some x → q x ≡ true → P x
at_filter P q [] all k x is passes = absurd (cc is)
at_filter P q (y ∷ ys) all k x is passes = go (λ rest j there. at_filter P q ys rest j x there passes) (q y) refl all k is
  where
    go : (AllByRecursion P (filter q ys) → (j : ℕ) → slice_get ys j ≡ Some x → P x) → (b : Bool) → q y ≡ b → AllByRecursion P (cond b (y ∷ filter q ys) (filter q ys))
        → (j : ℕ) → slice_get (y ∷ ys) j ≡ Some x → P x
    go more true e each zero at = subst P (one_is y x at) each.0
    go more true e each (suc j) at = more each.1 j at
    go more false e each zero at = absurd (let lost : true ≡ false = sym passes ∙ ap q (sym (one_is y x at)) ∙ e in cc lost)
    go more false e each (suc j) at = more each j at

record IsBehind {X : Type 0} (xs ys : List X) (i : ℕ) (x : X) : Type 0 where
  pub place : ℕ
  pub at : i ≡ length xs + place
  pub is : slice_get ys place ≡ Some x

split : {X : Type 0} (xs ys : List X) (i : ℕ) (x : X) → slice_get (xs ++ ys) i ≡ Some x → (slice_get xs i ≡ Some x) ⊎ IsBehind xs ys i x
split [] ys i x is = inr (record { place = i; at = omega arith; is = is })
split (y ∷ xs) ys zero x is = inl is
split (y ∷ xs) ys (suc i) x is = elim (split xs ys i x is) [
  | inl a ↦ inl a
  | inr b ↦ inr (record { place = b.place; at = omega (arith, b.at); is = b.is })
]

-- ---- numbers of nodes

module _ (m : Marking) (n : NodeId) where
  pub bound_marked : is_marked m n ≡ true → bound_of m n ≡ mark_at m.sheets n
  bound_marked marked = go (nat_eq (mark_at m.sheets n) 255) refl
    where
      go : (b : Bool) → nat_eq (mark_at m.sheets n) 255 ≡ b → cond b m.rest (mark_at m.sheets n) ≡ mark_at m.sheets n
      go false e = refl
      go true e = absurd (let lost : false ≡ true = ap not (sym e) ∙ marked in cc lost)

  pub bound_rest : is_marked m n ≡ false → bound_of m n ≡ m.rest
  bound_rest marked = go (nat_eq (mark_at m.sheets n) 255) refl
    where
      go : (b : Bool) → nat_eq (mark_at m.sheets n) 255 ≡ b → cond b m.rest (mark_at m.sheets n) ≡ m.rest
      go true e = refl
      go false e = absurd (let lost : true ≡ false = ap not (sym e) ∙ marked in cc lost)

-- nodes that are marked with 0 have the number 0
pub bounds_zero : (m : Marking) (ns : List NodeId) → AllByRecursion (λ n. mark_at m.sheets n ≡ 0) ns → AllByRecursion (λ n. bound_of m n ≡ 0) ns
bounds_zero m ns zeros = each_then (λ n. mark_at m.sheets n ≡ 0) (λ n. bound_of m n ≡ 0) (λ n zero. ap (bound_by m.rest) zero) ns zeros

is_mark : (mark k : ℕ) → mark ≡ k → k < 255 → not (nat_eq mark 255) ≡ true
is_mark mark k is low = let no : nat_eq mark 255 ≡ false = grind (arith, nat_tests, is, low) in ap not no

-- ---- rounds

module _ (g : Graph) (kind : List ℕ) (way : Direction) where
  module _ (level from : ℕ) (m new : Marking) (low : level ≤ 16) (aimed : IsAimed g kind way level from m) (spread : IsSpread (suc level) m new) where
    still : (n : NodeId) → is_marked m n ≡ true → is_marked new n ≡ true
    still n marked = ap (λ k. not (nat_eq k 255)) (spread.stays n marked) ∙ marked

    few_new : (n : NodeId) → is_marked new n ≡ true → mark_at new.sheets n ≤ suc level
    few_new n marked = go (is_marked m n) refl
      where
        go : (b : Bool) → is_marked m n ≡ b → mark_at new.sheets n ≤ suc level
        go true was = let same = spread.stays n was in let few = aimed.few n was in omega (arith, same, few)
        go false was = let is = spread.comes n marked was in omega (arith, is)

    parted : (i : ℕ) (n : NodeId) → slice_get new.reached i ≡ Some n → (slice_get m.reached i ≡ Some n) ⊎ IsBehind m.reached spread.more i n
    parted i n is = split m.reached spread.more i n (ap (λ l. slice_get l i) (sym spread.reached) ∙ is)

    mark_more : (i : ℕ) (n : NodeId) → IsBehind m.reached spread.more i n → mark_at new.sheets n ≡ suc level
    mark_more i n b = at_place (λ k. mark_at new.sheets k ≡ suc level) spread.more spread.each b.place n b.is

    marked_new : (i : ℕ) (n : NodeId) → slice_get new.reached i ≡ Some n → is_marked new n ≡ true
    marked_new i n is = elim (parted i n is) [
      | inl old ↦ still n (aimed.marked i n old)
      | inr b ↦ is_mark (mark_at new.sheets n) (suc level) (mark_more i n b) (omega (arith, low))
    ]

    settled_new : (n : NodeId) → is_marked m n ≡ true → IsSettled g kind way m n → IsSettled g kind way new n
    settled_new n marked settled k r is p typed comes leads =
        let old = settled k r is p typed comes leads in
        let same = spread.stays p old.0 in
        let here = spread.stays n marked in
        let less = old.1 in
        (still p old.0, omega (arith, same, here, less))

    ahead_new : (i : ℕ) (n : NodeId) → from ≤ i → slice_get new.reached i ≡ Some n → level ≤ mark_at new.sheets n
    ahead_new i n high is = elim (parted i n is) [
      | inl old ↦ let less = aimed.ahead i n high old in let same = spread.stays n (aimed.marked i n old) in omega (arith, less, same)
      | inr b ↦ let more = mark_more i n b in omega (arith, more)
    ]

    -- nothing new is settled
    pub aimed_still : from ≤ length m.reached → IsAimed g kind way level from new
    aimed_still within = record {
      few = few_new;
      marked = marked_new;
      settled = λ i n less is. elim (parted i n is) [
        | inl old ↦ settled_new n (aimed.marked i n old) (aimed.settled i n less old)
        | inr b ↦ absurd (let at = b.at in omega (arith, at, less, within))
      ];
      ahead = ahead_new;
    }

    -- one more node is settled
    module _ (n : NodeId) (here : slice_get m.reached from ≡ Some n)
        (hit : (k : ℕ) (r : RelId) → slice_get (all_rels g) k ≡ Some r → (p : NodeId) → is_of_type g kind r ≡ true → near g way r ≡ Some p → far g way r ≡ Some n → is_marked new p ≡ true) where
      within_here : from < length m.reached
      within_here = slice_get_within m.reached from n here

      settled_here : IsSettled g kind way new n
      settled_here k r is p typed comes leads =
          let marked = hit k r is p typed comes leads in
          let most = few_new p marked in
          let least = aimed.ahead from n (omega arith) here in
          let same = spread.stays n (aimed.marked from n here) in
          (marked, omega (arith, most, least, same))

      pub aimed_next : IsAimed g kind way level (suc from) new
      aimed_next = record {
        few = few_new;
        marked = marked_new;
        settled = λ i q less is. elim (parted i q is) [
          | inl old ↦ go i q less old (cases_lt i from)
          | inr b ↦ absurd (let at = b.at in let within = within_here in omega (arith, at, less, within))
        ];
        ahead = λ i q high is. ahead_new i q (omega (arith, high)) is;
      }
        where
          go : (i : ℕ) (q : NodeId) → i < suc from → slice_get m.reached i ≡ Some q → (i < from) ⊎ (from ≤ i) → IsSettled g kind way new q
          go i q less old (inl low) = settled_new q (aimed.marked i q old) (aimed.settled i q low old)
          go i q less old (inr high) =
              let at : i ≡ from = omega (arith, less, high) in
              let both : Some n ≡ Some q = sym here ∙ ap (slice_get m.reached) (sym at) ∙ old in
              subst (IsSettled g kind way new) (one_is n q both) settled_here

  -- the round is over
  pub aimed_round : (level : ℕ) (m new : Marking) → IsSpread (suc level) m new → IsAimed g kind way level (length m.reached) new → IsAimed g kind way (suc level) (length m.reached) new
  aimed_round level m new spread aimed = record {
    few = λ n marked. (let few = aimed.few n marked in omega (arith, few));
    marked = aimed.marked;
    settled = aimed.settled;
    ahead = λ i n high is. elim (split m.reached spread.more i n (ap (λ l. slice_get l i) (sym spread.reached) ∙ is)) [
      | inl old ↦ absurd (let less = slice_get_within m.reached i n old in omega (arith, less, high))
      | inr b ↦ let more = at_place (λ k. mark_at new.sheets k ≡ suc level) spread.more spread.each b.place n b.is in omega (arith, more)
    ];
  }

  pub aimed_rest : (level from rest : ℕ) (m : Marking) → IsAimed g kind way level from m → IsAimed g kind way level from (record m { rest = rest })
  aimed_rest level from rest m aimed = record { few = aimed.few; marked = aimed.marked; settled = aimed.settled; ahead = aimed.ahead }

  -- ---- at first

  module _ (c m : Marking) (none : (n : NodeId) → mark_at c.sheets n ≡ 255) (spread : IsSpread 0 c m) where
    unmarked : (n : NodeId) → is_marked c n ≡ false
    unmarked n = ap (λ k. not (nat_eq k 255)) (none n)

    pub mark_first : (n : NodeId) → is_marked m n ≡ true → mark_at m.sheets n ≡ 0
    mark_first n marked = spread.comes n marked (unmarked n)

    pub bounds_first : c.rest ≡ 0 → (n : NodeId) → bound_of m n ≡ 0
    bounds_first rest n = go (is_marked m n) refl
      where
        go : (b : Bool) → is_marked m n ≡ b → bound_of m n ≡ 0
        go true marked = bound_marked m n marked ∙ mark_first n marked
        go false marked = bound_rest m n marked ∙ spread.rest ∙ rest

    pub aimed_first : c.reached ≡ [] → IsAimed g kind way 0 0 m
    aimed_first empty = record {
      few = λ n marked. (let is = mark_first n marked in omega (arith, is));
      marked = λ i n is. is_mark (mark_at m.sheets n) 0 (at_place (λ k. mark_at m.sheets k ≡ 0) spread.more spread.each i n (ap (λ l. slice_get l i) (sym (spread.reached ∙ ap (λ l. l ++ spread.more) empty)) ∙ is)) (omega arith);
      settled = λ i n less is. absurd (omega (arith, less));
      ahead = λ i n high is. omega arith;
    }

  -- ---- at last

  pub no_bounds : (m : Marking) → ((n : NodeId) → bound_of m n ≡ 0) → AreBounds g kind way (bound_of m)
  no_bounds m zeros = all_from (IsBounded g kind way (bound_of m)) (all_rels g) (λ k r is p n typed comes leads. (let here = zeros p in omega (arith, here)))

  module _ (level from : ℕ) (m : Marking) (aimed : IsAimed g kind way level from m) (known : AreKnown m) (rest : m.rest ≡ suc level) where
    bound_few : (n : NodeId) → bound_of m n ≤ suc level
    bound_few n = go (is_marked m n) refl
      where
        go : (b : Bool) → is_marked m n ≡ b → bound_of m n ≤ suc level
        go true marked = let is = bound_marked m n marked in let few = aimed.few n marked in omega (arith, is, few)
        go false marked = let is = bound_rest m n marked in omega (arith, is, rest)

    pub bounds_are : AreBounds g kind way (bound_of m)
    bounds_are = all_from (IsBounded g kind way (bound_of m)) (all_rels g) (λ k r is p n typed comes leads. go k r is p n typed comes leads (is_marked m n) refl)
      where
        go : (k : ℕ) (r : RelId) → slice_get (all_rels g) k ≡ Some r → (p n : NodeId) → is_of_type g kind r ≡ true → near g way r ≡ Some p → far g way r ≡ Some n
            → (b : Bool) → is_marked m n ≡ b → bound_of m p ≤ suc (bound_of m n)
        go k r is p n typed comes leads false marked = let here = bound_rest m n marked in let few = bound_few p in omega (arith, here, few, rest)
        go k r is p n typed comes leads true marked = elim (cases_lt (known n marked).place from) [
          | inl low ↦
              let s = aimed.settled (known n marked).place n low (known n marked).is k r is p typed comes leads in
              let here = bound_marked m n marked in
              let there = bound_marked m p s.0 in
              let less = s.1 in
              omega (arith, here, there, less)
          | inr high ↦
              let here = bound_marked m n marked in
              let few = bound_few p in
              let least = aimed.ahead (known n marked).place n high (known n marked).is in
              omega (arith, here, few, least)
        ]

  -- all that was reached is settled: no other node comes to the end
  module _ (level : ℕ) (m : Marking) (aimed : IsAimed g kind way level (length m.reached) m) (known : AreKnown m) (far_off : level ≤ m.rest) where
    bound_most : (n : NodeId) → bound_of m n ≤ suc m.rest
    bound_most n = go (is_marked m n) refl
      where
        go : (b : Bool) → is_marked m n ≡ b → bound_of m n ≤ suc m.rest
        go true marked = let is = bound_marked m n marked in let few = aimed.few n marked in omega (arith, is, few, far_off)
        go false marked = let is = bound_rest m n marked in omega (arith, is)

    pub bounds_closed : AreBounds g kind way (bound_of m)
    bounds_closed = all_from (IsBounded g kind way (bound_of m)) (all_rels g) (λ k r is p n typed comes leads. go k r is p n typed comes leads (is_marked m n) refl)
      where
        go : (k : ℕ) (r : RelId) → slice_get (all_rels g) k ≡ Some r → (p n : NodeId) → is_of_type g kind r ≡ true → near g way r ≡ Some p → far g way r ≡ Some n
            → (b : Bool) → is_marked m n ≡ b → bound_of m p ≤ suc (bound_of m n)
        go k r is p n typed comes leads false marked = let here = bound_rest m n marked in let few = bound_most p in omega (arith, here, few)
        go k r is p n typed comes leads true marked =
            let low = slice_get_within m.reached (known n marked).place n (known n marked).is in
            let s = aimed.settled (known n marked).place n low (known n marked).is k r is p typed comes leads in
            let here = bound_marked m n marked in
            let there = bound_marked m p s.0 in
            let less = s.1 in
            omega (arith, here, there, less)
