-- The turns of a connected order bind its variables in that order.
use Rattle.std.proofs.Common.{◌≡◌, ◌∙◌, ap, sym, refl, subst, ℕ, zero, suc, ◌+◌, ◌<◌, Bool, true, false, not, ◌&&◌, ◌||◌, cond, nat_eq, Option, Some, None, List, [], ◌∷◌, ◌++◌, length, filter, slice_get, true≢false, arith, append_assoc, append-nil, zero-add, inl, inr, ◌⊎◌}
use Rattle.std.specs.List.{list_any, range_with_len, AllByRecursion}
use Rattle.std.specs.Prelude.{nat_lt}
use Rattle.std.proofs.lemmas.Bool.{eqb-true, eq-eqb, lt-ltb, and_parts, and_from, or_cases, or_left, or_right, not_from_false, not-true}
use Rattle.std.proofs.lemmas.Option.{slice_get_within}
use Rattle.gq_base.specs.Catalogs.{Tables}
use Rattle.gq_least.proofs.Exists.{no_more}
use Rattle.gq_least.proofs.Picks.{pick_is, first_leads}
use Rattle.gq_least.specs.Choices.{wanted, ends_at, leads, first_to, or_else, pick_by, piece_of, newly, bound_by, variables_of}
use Rattle.gq_least.specs.Costs.{Set, with_one, with_all, goes_on, IsOrderOf}
use Rattle.gq_least.specs.Sizes.{joined}
use Rattle.gq_order.proofs.Grown.{Inside, turn_inside, piece_is}
use Rattle.gq_order.proofs.Taken.{at_each, passes_each, next_goes_on}
use Rattle.gq_order.proofs.TurnReads.{none_some, some_is, found_by}
use Rattle.gq_order.specs.Greedy.{components, at, closes, closing, extends, from_left, from_bound, next_or, turn_then}
use Rattle.gq_order.specs.Orders.{facing, read_by, known_by}
use Rattle.gq_order.specs.Pieces.{component, IsPieceOf}
use Rattle.gq_order.specs.Turns.{next_by, turns_by, piece_by}
use Rattle.gq_order.specs.declared.order.Turn.{Turn}
use Rattle.gq_order.specs.declared.stats.Stats.{Stats}
use Rattle.gq_order.specs.Connected as turns
use Rattle.gq_order.specs.Connected.{known_after}
use Rattle.gq_plan.proofs.Each.{each_then, each_append}
use Rattle.gq_plan.specs.Known.{Known, none, with_node}
use Rattle.gq_plan.specs.Meaning.{holds}
use Rattle.gq_plan.specs.Soundness.{IsSound, left_of, right_of}
use Rattle.gq_plan.specs.declared.typed.Typed.{Typed}
use Rattle.gq_plan.specs.declared.typed.TypedRel.{TypedRel}

-- ---- lists

record Some_item {X : Type 0} (p : X → Bool) (xs : List X) : Type 0 where
  place : ℕ
  item : X
  is : slice_get xs place ≡ Some item
  passes : p item ≡ true

any_item : {X : Type 0} (p : X → Bool) (xs : List X) → list_any p xs ≡ true → Some_item p xs
any_item p [] e = absurd (true≢false (sym e))
any_item p (x ∷ xs) e = elim (or_cases (p x) (list_any p xs) e) [
  | inl h ↦ record { place = 0; item = x; is = refl; passes = h }
  | inr h ↦ let more = any_item p xs h in record { place = more.place + 1; item = more.item; is = next x xs more.place ∙ more.is; passes = more.passes }
]
  where
    next : {X : Type 0} (x : X) (xs : List X) (i : ℕ) → slice_get (x ∷ xs) (i + 1) ≡ slice_get xs i
    next x xs i = let s : i + 1 ≡ suc i = omega arith in ap (slice_get (x ∷ xs)) s

record Has_first (xs : List ℕ) : Type 0 where
  first : ℕ
  is : slice_get xs 0 ≡ Some first

has_first : (xs : List ℕ) → 0 < length xs → Has_first xs
has_first [] h = absurd (omega arith)
has_first (x ∷ xs) h = record { first = x; is = refl }

-- the first of an order that is not bound comes behind all that are
wants : (k : Set) (done : List ℕ) (v : ℕ) (rest : List ℕ) → AllByRecursion (λ u. k u ≡ true) done → k v ≡ false → slice_get (filter (λ u. not (k u)) (done ++ v ∷ rest)) 0 ≡ Some v
wants k [] v rest all new = ap (λ b. slice_get (cond (not b) (v ∷ filter (λ u. not (k u)) rest) (filter (λ u. not (k u)) rest)) 0) new
wants k (u ∷ done) v rest all new =
    ap (λ b. slice_get (cond (not b) (u ∷ filter (λ u. not (k u)) (done ++ v ∷ rest)) (filter (λ u. not (k u)) (done ++ v ∷ rest))) 0) all.0
    ∙ wants k done v rest all.1 new

-- what passes a test is kept, so something is
some_kept : (p : ℕ → Bool) (xs : List ℕ) (i x : ℕ) → slice_get xs i ≡ Some x → p x ≡ true → 0 < length (filter p xs)
some_kept p [] i x e h = absurd (none_some x e)
some_kept p (z ∷ zs) zero x e h = subst (λ b. 0 < length (cond b (z ∷ filter p zs) (filter p zs))) (sym (ap p (some_is z x e) ∙ h)) (omega arith)
some_kept p (z ∷ zs) (suc i) x e h = go (p z) (some_kept p zs i x e h)
  where
    go : (b : Bool) → 0 < length (filter p zs) → 0 < length (cond b (z ∷ filter p zs) (filter p zs))
    go true more = omega arith
    go false more = more

-- ---- the ends of relationships

module _ (f : Set) where
  -- of a relationship that is read from a bound end to one that is not, the latter is the one that is named
  named : (b : Bool) (r : TypedRel) (v : ℕ) → f (left_of (facing b r)) ≡ true → f v ≡ false → (nat_eq r.source v || nat_eq r.target v) ≡ true → right_of (facing b r) ≡ v
  named b r v on off e = go b on
    where
      two : (c : Bool) → f (cond c r.target r.source) ≡ true → cond c r.source r.target ≡ v
      two c h = elim (or_cases (nat_eq r.source v) (nat_eq r.target v) e) [
        | inl m ↦ from_source c h (eqb-true r.source v m)
        | inr m ↦ from_target c h (eqb-true r.target v m)
      ]
        where
          from_source : (c : Bool) → f (cond c r.target r.source) ≡ true → r.source ≡ v → cond c r.source r.target ≡ v
          from_source true h m = m
          from_source false h m = absurd (true≢false (sym h ∙ ap f m ∙ off))

          from_target : (c : Bool) → f (cond c r.target r.source) ≡ true → r.target ≡ v → cond c r.source r.target ≡ v
          from_target true h m = absurd (true≢false (sym h ∙ ap f m ∙ off))
          from_target false h m = m

      go : (b : Bool) → f (left_of (facing b r)) ≡ true → right_of (facing b r) ≡ v
      go true h = two (not r.reversed) h
      go false h = two r.reversed h

  right_bound : (b : Bool) (r : TypedRel) → (f r.source && f r.target) ≡ true → f (right_of (facing b r)) ≡ true
  right_bound b r h = go b
    where
      two : (c : Bool) → f (cond c r.source r.target) ≡ true
      two true = (and_parts (f r.source) (f r.target) h).0
      two false = (and_parts (f r.source) (f r.target) h).1

      go : (b : Bool) → f (right_of (facing b r)) ≡ true
      go true = two (not r.reversed)
      go false = two r.reversed

module _ (catalog : Tables) (y : Typed) (stats : Stats) (sound : IsSound catalog y) (c : ℕ) (order : List ℕ) (s : ℕ) where
  abbrev pick : Known → Option ℕ
  pick = pick_by y order

  -- how far the turns have come: so much of the order is bound, and the rest goes on from there
  record State (k : Known) (done rest : List ℕ) : Type 0 where
    whole : order ≡ done ++ rest
    bound : AllByRecursion (λ u. k.nodes u ≡ true) done
    goes : goes_on (joined y) k.nodes rest ≡ true
    all : with_all rest k.nodes ≡ (component y c).nodes
    inside : Inside catalog y stats sound c s k

  -- a relationship leads to the next variable
  joined_leads : (k : Known) (v : ℕ) → Inside catalog y stats sound c s k → k.nodes v ≡ false → joined y v k.nodes ≡ true → Some_item (leads y k (Some v)) (range_with_len 0 (length y.rels))
  joined_leads k v inside new j =
      let found = any_item (λ r. not (nat_eq r.source r.target) && ((nat_eq r.source v && k.nodes r.target) || (nat_eq r.target v && k.nodes r.source))) y.rels j in
      let lt = slice_get_within y.rels found.place found.item found.is in
      let r = found.item in
      let ends = (and_parts (not (nat_eq r.source r.target)) ((nat_eq r.source v && k.nodes r.target) || (nat_eq r.target v && k.nodes r.source)) found.passes).1 in
      record {
        place = found.place;
        item = found.place;
        is = in_range 0 (length y.rels) found.place lt ∙ ap Some (zero-add found.place);
        passes =
            and_from (extends y k found.place) (holds (ends_at (Some v)) (slice_get y.rels found.place))
            (and_from (not (k.rels found.place)) _ (not_from_false (k.rels found.place) (free found.place r found.is ends (k.rels found.place) refl)) (ap (holds (λ q. (k.nodes q.source || k.nodes q.target) && not (k.nodes q.source && k.nodes q.target))) found.is ∙ one_end r ends))
            (ap (holds (ends_at (Some v))) found.is ∙ names r ends);
      }
    where
      in_range : (a n i : ℕ) → i < n → slice_get (range_with_len a n) i ≡ Some (a + i)
      in_range a zero i lt = absurd (omega arith)
      in_range a (suc n) zero lt = ap Some (omega arith)
      in_range a (suc n) (suc i) lt = in_range (a + 1) n i (omega arith) ∙ ap Some (omega arith)

      names : (r : TypedRel) → ((nat_eq r.source v && k.nodes r.target) || (nat_eq r.target v && k.nodes r.source)) ≡ true → (nat_eq r.source v || nat_eq r.target v) ≡ true
      names r e = elim (or_cases (nat_eq r.source v && k.nodes r.target) (nat_eq r.target v && k.nodes r.source) e) [
        | inl h ↦ or_left (nat_eq r.source v) (nat_eq r.target v) (and_parts (nat_eq r.source v) (k.nodes r.target) h).0
        | inr h ↦ or_right (nat_eq r.source v) (nat_eq r.target v) (and_parts (nat_eq r.target v) (k.nodes r.source) h).0
      ]

      one : (a b : Bool) → (a ≡ true) ⊎ (b ≡ true) → (a ≡ false) ⊎ (b ≡ false) → ((a || b) && not (a && b)) ≡ true
      one true true h (inl e) = absurd (true≢false e)
      one true true h (inr e) = absurd (true≢false e)
      one true false h e = refl
      one false true h e = refl
      one false false (inl h) e = absurd (true≢false (sym h))
      one false false (inr h) e = absurd (true≢false (sym h))

      one_end : (r : TypedRel) → ((nat_eq r.source v && k.nodes r.target) || (nat_eq r.target v && k.nodes r.source)) ≡ true → ((k.nodes r.source || k.nodes r.target) && not (k.nodes r.source && k.nodes r.target)) ≡ true
      one_end r e = elim (or_cases (nat_eq r.source v && k.nodes r.target) (nat_eq r.target v && k.nodes r.source) e) [
        | inl h ↦ let p = and_parts (nat_eq r.source v) (k.nodes r.target) h in one (k.nodes r.source) (k.nodes r.target) (inr p.1) (inl (ap k.nodes (eqb-true r.source v p.0) ∙ new))
        | inr h ↦ let p = and_parts (nat_eq r.target v) (k.nodes r.source) h in one (k.nodes r.source) (k.nodes r.target) (inl p.1) (inr (ap k.nodes (eqb-true r.target v p.0) ∙ new))
      ]

      free : (x : ℕ) (r : TypedRel) → slice_get y.rels x ≡ Some r → ((nat_eq r.source v && k.nodes r.target) || (nat_eq r.target v && k.nodes r.source)) ≡ true → (b : Bool) → k.rels x ≡ b → k.rels x ≡ false
      free x r is e false m = m
      free x r is e true m =
          let both = and_parts (k.nodes r.source) (k.nodes r.target) (sym (ap (holds (λ q. k.nodes q.source && k.nodes q.target)) is) ∙ inside.rels x m) in
          elim (or_cases (nat_eq r.source v && k.nodes r.target) (nat_eq r.target v && k.nodes r.source) e) [
            | inl h ↦ absurd (true≢false (sym both.0 ∙ ap k.nodes (eqb-true r.source v (and_parts (nat_eq r.source v) (k.nodes r.target) h).0) ∙ new))
            | inr h ↦ absurd (true≢false (sym both.1 ∙ ap k.nodes (eqb-true r.target v (and_parts (nat_eq r.target v) (k.nodes r.source) h).0) ∙ new))
          ]

  -- a turn to a new variable leads to the next one of the order
  leads_there : (k : Known) (t : Turn) (r : TypedRel) (done : List ℕ) (v : ℕ) (rest : List ℕ) → State k done (v ∷ rest) → next_by y pick k ≡ Some t → read_by y t ≡ Some r
      → k.nodes (left_of r) ≡ true → k.nodes (right_of r) ≡ false → right_of r ≡ v
  unfolding wanted first_to pick_by
  leads_there k t r done v rest st e is left new = go (slice_get (closing y k) 0) refl (pick k) refl e
    where
      all : List ℕ
      all = range_with_len 0 (length y.rels)

      parts : (not (k.nodes v) && joined y v k.nodes ≡ true) × (goes_on (joined y) (with_one v k.nodes) rest ≡ true)
      parts = and_parts (not (k.nodes v) && joined y v k.nodes) (goes_on (joined y) (with_one v k.nodes) rest) st.goes

      fresh : k.nodes v ≡ false
      fresh = not-true (k.nodes v) (and_parts (not (k.nodes v)) (joined y v k.nodes) parts.0).0

      -- the choice leads to the next variable
      wants_it : wanted order k ≡ Some v
      wants_it = ap (λ os. slice_get (filter (λ u. not (k.nodes u)) os) 0) st.whole ∙ wants k.nodes done v rest st.bound fresh

      one_leads : Some_item (leads y k (Some v)) all
      one_leads = joined_leads k v st.inside fresh (and_parts (not (k.nodes v)) (joined y v k.nodes) parts.0).1

      finds : Has_first (filter (leads y k (Some v)) all)
      finds = has_first (filter (leads y k (Some v)) all) (some_kept (leads y k (Some v)) all one_leads.place one_leads.item one_leads.is one_leads.passes)

      picks : pick k ≡ Some finds.first
      picks = ap (λ o. or_else (first_to y k o) (first_to y k None)) wants_it ∙ ap (λ o. or_else o (first_to y k None)) finds.is

      by_leads : (x : ℕ) → finds.first ≡ x → from_bound y k x ≡ t → right_of r ≡ v
      by_leads x same m =
          let leads_x : leads y k (Some v) x ≡ true = subst (λ z. leads y k (Some v) z ≡ true) same (first_leads y k (Some v) finds.first finds.is) in
          let found = found_by y t r is in
          let at_x : slice_get y.rels x ≡ Some found.rel = ap (λ (u : Turn). slice_get y.rels u.rel) m ∙ found.is in
          let ends = sym (ap (holds (ends_at (Some v))) at_x) ∙ (and_parts (extends y k x) (holds (ends_at (Some v)) (slice_get y.rels x)) leads_x).1 in
          ap right_of (sym found.facing) ∙ named k.nodes t.from_right found.rel v (ap (λ q. k.nodes (left_of q)) found.facing ∙ left) fresh ends

      by_closing : (x : ℕ) → closes y k x ≡ true → from_left x ≡ t → ⊥
      by_closing x h m =
          let found = found_by y t r is in
          let at_x : slice_get y.rels x ≡ Some found.rel = ap (λ (u : Turn). slice_get y.rels u.rel) m ∙ found.is in
          let both = sym (ap (holds (λ q. k.nodes q.source && k.nodes q.target)) at_x) ∙ (and_parts (not (k.rels x)) (holds (λ q. k.nodes q.source && k.nodes q.target) (slice_get y.rels x)) h).1 in
          true≢false (sym (right_bound k.nodes t.from_right found.rel both) ∙ ap (λ q. k.nodes (right_of q)) found.facing ∙ new)

      go : (a : Option ℕ) → slice_get (closing y k) 0 ≡ a → (b : Option ℕ) → pick k ≡ b → next_or y a b k ≡ Some t → right_of r ≡ v
      go (Some x) m b n h = absurd (by_closing x (at_each (λ z. closes y k z ≡ true) (closing y k) 0 x (passes_each (closes y k) all) m) (some_is (from_left x) t h))
      go None m (Some x) n h = by_leads x (some_is finds.first x (sym picks ∙ n)) (some_is (from_bound y k x) t h)
      go None m None n h = absurd (none_some t h)

  record Next (k : Known) (t : Turn) (rest : List ℕ) : Type 0 where
    done_then : List ℕ
    rest_then : List ℕ
    splits : rest ≡ newly k (read_by y t) ++ rest_then
    state : State (known_by k t.rel (read_by y t)) done_then rest_then

  grows_bound : (k : Set) (v : ℕ) (us : List ℕ) → AllByRecursion (λ u. k u ≡ true) us → AllByRecursion (λ u. with_one v k u ≡ true) us
  grows_bound k v us h = each_then (λ u. k u ≡ true) (λ u. with_one v k u ≡ true) (λ u e. or_right (nat_eq u v) (k u) e) us h

  next_step : (k : Known) (t : Turn) (done rest : List ℕ) → State k done rest → next_by y pick k ≡ Some t → Next k t rest
  next_step k t done rest st e =
      let g = next_goes_on y pick (pick_is y order) k t e in
      let n = go (read_by y t) refl g (turn_inside catalog y stats sound c s k t st.inside g) in
      record { done_then = n.0; rest_then = n.1; splits = n.2; state = n.3 }
    where
      go : (found : Option TypedRel) → read_by y t ≡ found → turns.goes_on k t.rel found ≡ true → Inside catalog y stats sound c s (known_by k t.rel found)
          → (done_then : List ℕ) × (rest_then : List ℕ) × (rest ≡ newly k found ++ rest_then) × State (known_by k t.rel found) done_then rest_then
      go None is g ins = absurd (true≢false (sym g))
      go (Some r) is g ins = new (k.nodes (right_of r)) refl rest st
        where
          w : ℕ
          w = right_of r

          left : k.nodes (left_of r) ≡ true
          left = (and_parts (not (k.rels t.rel)) (k.nodes (left_of r)) g).1

          new : (b : Bool) → k.nodes w ≡ b → (rs : List ℕ) → State k done rs
              → (done_then : List ℕ) × (rest_then : List ℕ) × (rs ≡ cond (k.nodes w) [] (w ∷ []) ++ rest_then) × State (known_by k t.rel (Some r)) done_then rest_then
          new true m rs z =
              let same = no_more w k.nodes m in (
                done,
                rs,
                sym (ap (λ b. cond b [] (w ∷ []) ++ rs) m),
                record {
                  whole = z.whole;
                  bound = grows_bound k.nodes w done z.bound;
                  goes = ap (λ n. goes_on (joined y) n rs) same ∙ z.goes;
                  all = ap (with_all rs) same ∙ z.all;
                  inside = ins;
                },
              )
          new false m [] z =
              absurd (true≢false (sym (ins.nodes w (or_left (nat_eq w w) (k.nodes w) (eq-eqb w w refl))) ∙ sym (ap (λ n. n w) z.all) ∙ m))
          new false m (v ∷ rs) z =
              let here : w ≡ v = leads_there k t r done v rs z e is left m in
              let parts = and_parts (not (k.nodes v) && joined y v k.nodes) (goes_on (joined y) (with_one v k.nodes) rs) z.goes in (
                done ++ v ∷ [],
                rs,
                sym (ap (λ b. cond b [] (w ∷ []) ++ rs) m ∙ ap (λ u. u ∷ rs) here),
                record {
                  whole = z.whole ∙ sym (append_assoc done (v ∷ []) rs);
                  bound = each_append (λ u. with_one w k.nodes u ≡ true) done (v ∷ []) (grows_bound k.nodes w done z.bound) (or_left (nat_eq v w) (k.nodes v) (eq-eqb v w (sym here)), tt);
                  goes = ap (λ u. goes_on (joined y) (with_one u k.nodes) rs) here ∙ parts.1;
                  all = ap (λ u. with_all rs (with_one u k.nodes)) here ∙ z.all;
                  inside = ins;
                },
              )

  -- what turns bind is a front of the rest, and what is left goes on from there
  record Front (k : Known) (ts : List Turn) (rest : List ℕ) : Type 0 where
    left : List ℕ
    splits : rest ≡ bound_by y k ts ++ left
    goes : goes_on (joined y) (known_after y k ts).nodes left ≡ true
    all : with_all left (known_after y k ts).nodes ≡ (component y c).nodes

  fronts : (fuel : ℕ) (k : Known) (done rest : List ℕ) → State k done rest → Front k (turns_by y pick fuel k) rest
  fronts zero k done rest st = record { left = rest; splits = refl; goes = st.goes; all = st.all }
  fronts (suc fuel) k done rest st = go (next_by y pick k) refl (λ t d q z. fronts fuel (known_by k t.rel (read_by y t)) d q z)
    where
      go : (o : Option Turn) → next_by y pick k ≡ o
          → ((t : Turn) (d q : List ℕ) → State (known_by k t.rel (read_by y t)) d q → Front (known_by k t.rel (read_by y t)) (turns_by y pick fuel (known_by k t.rel (read_by y t))) q)
          → Front k (turn_then o (λ t. turns_by y pick fuel (known_by k t.rel (read_by y t)))) rest
      go None e more = record { left = rest; splits = refl; goes = st.goes; all = st.all }
      go (Some t) e more =
          let n = next_step k t done rest st e in
          let f = more t n.done_then n.rest_then n.state in
          let new = newly k (read_by y t) in
          record {
            left = f.left;
            splits = n.splits ∙ ap (λ xs. new ++ xs) f.splits ∙ sym (append_assoc new (bound_by y (known_by k t.rel (read_by y t)) (turns_by y pick fuel (known_by k t.rel (read_by y t)))) f.left);
            goes = f.goes;
            all = f.all;
          }

module _ (catalog : Tables) (y : Typed) (stats : Stats) (sound : IsSound catalog y) where
  -- the piece of an order of a component binds its variables in that order
  pub follows : (c : ℕ) (v : ℕ) (vs : List ℕ) → v < length y.nodes → at (components y) v ≡ c → IsOrderOf (joined y) (component y c).nodes (v ∷ vs) → variables_of y (piece_of y (v ∷ vs) v) ≡ v ∷ vs
  follows c v vs within own h =
      let order = v ∷ vs in
      let k = with_node v none in
      let ts = turns_by y (pick_by y order) (length y.rels) k in
      let is : IsPieceOf y c (piece_by y (pick_by y order) v) = piece_is catalog y stats sound (pick_by y order) (pick_is y order) c v within own in
      let f = fronts catalog y stats sound c order v (length y.rels) k (v ∷ []) vs (record {
        whole = refl;
        bound = (or_left (nat_eq v v) false (eq-eqb v v refl), tt);
        goes = h.connected;
        all = h.lists;
        inside = record {
          nodes = λ u e. let same : u ≡ v = eqb-true u v (sym (or_false (nat_eq u v)) ∙ e) in
              and_from (nat_lt u (length y.nodes)) (nat_eq (at (components y) u) c) (lt-ltb u (length y.nodes) (omega (arith, same, within))) (eq-eqb (at (components y) u) c (ap (at (components y)) same ∙ own));
          rels = λ x e. absurd (true≢false (sym e));
          start = or_left (nat_eq v v) false (eq-eqb v v refl);
        };
      }) in
      ap (λ xs. v ∷ xs) (sym (f.splits ∙ ap (λ l. bound_by y k ts ++ l) (none_left f.left (known_after y k ts).nodes (ap (λ (n : Known). n.nodes) is.binds) f.goes f.all) ∙ append-nil (bound_by y k ts)))
    where
      or_false : (b : Bool) → (b || false) ≡ b
      or_false true = refl
      or_false false = refl

      stays : (ws : List ℕ) (s : Set) (u : ℕ) → s u ≡ true → with_all ws s u ≡ true
      stays [] s u h = h
      stays (w ∷ ws) s u h = stays ws (with_one w s) u (or_right (nat_eq u w) (s u) h)

      none_left : (left : List ℕ) (n : Set) → n ≡ (component y c).nodes → goes_on (joined y) n left ≡ true → with_all left n ≡ (component y c).nodes → left ≡ []
      none_left [] n e g all = refl
      none_left (u ∷ us) n e g all =
          let parts = and_parts (not (n u) && joined y u n) (goes_on (joined y) (with_one u n) us) g in
          let fresh = not-true (n u) (and_parts (not (n u)) (joined y u n) parts.0).0 in
          absurd (true≢false (sym (stays us (with_one u n) u (or_left (nat_eq u u) (n u) (eq-eqb u u refl))) ∙ ap (λ z. z u) (all ∙ sym e) ∙ fresh))
