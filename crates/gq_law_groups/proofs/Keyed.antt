-- The place of an assignment in a group's whole list is determined: no other place of the list binds what it binds.
use Rattle.std.proofs.Common.{◌≡◌, ℕ, zero, suc, ◌+◌, ◌<◌, ◌≤◌, Bool, true, false, ◌&&◌, ◌||◌, cond, nat_eq, Option, Some, None, List, [], ◌∷◌, ◌++◌, map, filter, length, slice_get, get_or, refl, sym, ap, ap₂, ◌∙◌, subst, arith, zero-add, true≢false}
use Rattle.std.specs.Prelude.{IsPermutation, IsTrue}
use Rattle.std.specs.List.{AllZip, AllByRecursion, list_all, range_with_len}
use Rattle.std.specs.Option.{unwrap_or}
use Rattle.std.proofs.lemmas.Bool.{eq-eqb, eqb-true, and_parts, and_from, or_left, or_right}
use Rattle.std.proofs.lemmas.List.Sorted.{IsPermutation-sym, All-permutation, sum_by-IsPermutation}
use Rattle.std.proofs.lemmas.List.Elements.{All-from_recursion, recursion_from_All}
use Rattle.gq_base.specs.Plain.{Graph}
use Rattle.gq_base.specs.Valid.{is_valid}
use Rattle.gq_base.specs.declared.NodeId.{NodeId}
use Rattle.gq_base.specs.declared.RelId.{RelId}
use Rattle.gq_base.specs.declared.direction.Direction.{Direction}
use Rattle.gq_plan.specs.Allowed.{at_same}
use Rattle.gq_plan.specs.Assignments.{Assignment, rels_of, same_node, same_rel}
use Rattle.gq_plan.specs.Covers.{after, after_step, fits, fits_step, goes}
use Rattle.gq_plan.specs.Halves.{runs_step, runs}
use Rattle.gq_plan.specs.Known as known
use Rattle.gq_plan.specs.Known.{Known, none}
use Rattle.gq_plan.specs.Meaning.{Partial, nothing, with_node, with_rel, with_all, look, near, far, arrive, agree, holds, nodes_for, rels_from, mean, step}
use Rattle.gq_plan.specs.Plans.{Plan, Step, Scan, Extend, Close, Join, Keep, Differ, NoLoop, Single, Meet}
use Rattle.gq_plan.specs.Soundness.{IsSound}
use Rattle.gq_plan.specs.declared.typed.Typed.{Typed}
use Rattle.gq_plan.specs.declared.typed.TypedRel.{TypedRel}
use Rattle.gq_plan.specs.Counts.{bit, hits, total}
use Rattle.gq_plan.proofs.Counts.{total_map, total_filter, hits_and_const}
use Rattle.gq_plan.proofs.Demands.{total_sum}
use Rattle.gq_plan.proofs.Each.{each_of, each_map, each_flat_map, each_kept, each_then}
use Rattle.gq_plan.proofs.Pieces.{holds_some}
use Rattle.gq_law_plans.specs.Bindings.{extends, nodes_in, rels_in, is_rel_at, bound}
use Rattle.gq_law_plans.proofs.Counting.{known_by, at_same_is, extends_with_rel, hits_rels_at, passes_in}
use Rattle.gq_law_plans.proofs.Lookups.{eqb_swap, look_some, look_bound, Found}
use Rattle.gq_law_plans.proofs.Owning.{Owns, owns_nothing, owns_mean, owns_step}
use Rattle.gq_law_plans.proofs.PlanCounts.{count_step}
use Rattle.gq_plan.proofs.Products.{same_rel_is}
use Rattle.gq_search.specs.Layouts.{numbers_from, number_of, walks, key_of, later, Spot, Before, At, Over, owed_walks}
use Rattle.gq_search.proofs.Cells.{filter_true, same_bag}
use Rattle.gq_search.proofs.Different.{keys_of_owed}
use Rattle.gq_law_groups.specs.Groups.{Group, MakesGroup, HasRows, checked, plan_of, follow, raw, own, kept, passes, raw_at, place, choices, decode}
use Rattle.gq_law_groups.specs.Keys.{IsAs, at_one, is_part, first_place, place_in, key_in, makers, KeysOfAssignments, KeysOfRest}
use Rattle.gq_law_groups.specs.Law.{HaveRows}
use Rattle.gq_law_groups.specs.Layout.{layout_of, after_all, ArePlaced}
use Rattle.gq_law_groups.specs.Order.{NoGroups, AreCut}
use Rattle.gq_law_groups.proofs.Alike.{AreAlike, alike_then, close_parts}
use Rattle.gq_law_groups.proofs.Bridge.{step-raw, walks_are_choices}
use Rattle.gq_law_groups.proofs.Cutting.{no_join, are_groups}
use Rattle.gq_law_groups.proofs.Halved.{made_rel, owns_run}
use Rattle.gq_law_groups.proofs.Following.{less_known, zip_at, each_at, each_first, raw_alike, raw_keeps, kept_keeps, layout_follows}

-- ---- a list of which few items pass

some-hit : {X : Type 0} (q : X → Bool) (xs : List X) (d : X) (i : ℕ) → i < length xs → q (get_or xs i d) ≡ true → 1 ≤ hits q xs
some-hit q [] d i low h = absurd (omega arith)
some-hit q (x ∷ xs) d zero low h = (let e : bit (q x) ≡ 1 = ap bit h in omega (arith, e))
some-hit q (x ∷ xs) d (suc i) low h = (let more = some-hit q xs d i (omega arith) h in omega (arith, more))

few-before : {X : Type 0} (q : X → Bool) (xs : List X) (d : X) (i j : ℕ) → hits q xs ≤ 1 → i < j → j < length xs → q (get_or xs j d) ≡ true → q (get_or xs i d) ≡ false
few-before q [] d i j few less low h = absurd (omega arith)
few-before q (x ∷ xs) d i zero few less low h = absurd (omega arith)
few-before q (x ∷ xs) d zero (suc j) few less low h = go (q x) refl
  where
    go : (b : Bool) → q x ≡ b → q x ≡ false
    go false e = e
    go true e =
        let one : bit (q x) ≡ 1 = ap bit e in
        let more = some-hit q xs d j (omega arith) h in
        absurd (omega (arith, few, one, more))
few-before q (x ∷ xs) d (suc i) (suc j) few less low h = few-before q xs d i j (omega (arith, few)) (omega arith) (omega arith) h

first-at : {X : Type 0} (p : X → Bool) (xs : List X) (d : X) (j : ℕ) → j < length xs → p (get_or xs j d) ≡ true → ((i : ℕ) → i < j → p (get_or xs i d) ≡ false) → first_place p xs ≡ j
first-at p [] d j low h other = absurd (omega arith)
first-at p (x ∷ xs) d zero low h other = ap (λ b. cond b 0 (first_place p xs + 1)) h
first-at p (x ∷ xs) d (suc j) low h other =
    let rest = first-at p xs d j (omega arith) h (λ i less. other (suc i) (omega arith)) in
    let e : first_place p xs + 1 ≡ suc j = omega (arith, rest) in
    ap (λ b. cond b 0 (first_place p xs + 1)) (other 0 (omega arith)) ∙ e

hits_permuted : {X : Type 0} (q : X → Bool) (xs ys : List X) → IsPermutation xs ys → hits q xs ≡ hits q ys
hits_permuted q xs ys h = total_sum (λ x. bit (q x)) xs ∙ sym (sum_by-IsPermutation (λ x. bit (q x)) xs ys h) ∙ sym (total_sum (λ x. bit (q x)) ys)

bit-few : (b : Bool) → bit b ≤ 1
bit-few true = omega arith
bit-few false = omega arith

each_permuted : {X : Type 0} (P : X → Type 0) (xs ys : List X) → IsPermutation xs ys → AllByRecursion P ys → AllByRecursion P xs
each_permuted P xs ys same h = recursion_from_All P xs (All-permutation P ys xs (IsPermutation-sym _ _ same) (All-from_recursion P ys h))

-- ---- an assignment that has all that is bound

no_node : NodeId
no_node = record { table = 0; row = 0 }

no_rel : RelId
no_rel = record { table = 0; row = 0 }

-- what is bound, as an assignment of all variables
abbrev full : Typed → Partial → Assignment
full y e = record {
  nodes = map (λ v. unwrap_or (look e.nodes v) no_node) (range_with_len 0 (length y.nodes));
  rels = map (λ x. unwrap_or (look e.rels x) no_rel) (range_with_len 0 (length y.rels));
}

read-at : {X : Type 0} (f : ℕ → X) (a n v w : ℕ) → v < n → a + v ≡ w → slice_get (map f (range_with_len a n)) v ≡ Some (f w)
read-at f a zero v w low e = absurd (omega arith)
read-at f a (suc n) zero w low e = ap (λ u. Some (f u)) (omega (arith, e))
read-at f a (suc n) (suc v) w low e = read-at f (a + 1) n v w (omega arith) (omega (arith, e))

node-self : (n : NodeId) → same_node n n ≡ true
node-self n = and_from _ _ (eq-eqb n.table n.table refl) (eq-eqb n.row n.row refl)

rel-self : (r : RelId) → same_rel r r ≡ true
rel-self r = and_from _ _ (eq-eqb r.table r.table refl) (eq-eqb r.row r.row refl)

at_one-is : (o q : Option RelId) → at_one o q ≡ true → o ≡ q
at_one-is None q h = absurd (true≢false (sym h))
at_one-is (Some q) None h = absurd (true≢false (sym h))
at_one-is (Some q) (Some r) h = ap Some (sym (same_rel_is q r h))

-- a test of each variable that is bound
each-bound : {X : Type 0} (test : ℕ → Bool) (bs : List (ℕ × X)) → list_all (λ b. test b.0) bs ≡ true → (v : ℕ) → bound bs v ≡ true → test v ≡ true
each-bound test [] h v b = absurd (true≢false (sym b))
each-bound test (b ∷ bs) h v is = go (each-bound test bs (and_parts (test b.0) _ h).1 v) (nat_eq v b.0) refl is
  where
    parts : (test b.0 ≡ true) × (list_all (λ b. test b.0) bs ≡ true)
    parts = and_parts (test b.0) _ h

    go : (bound bs v ≡ true → test v ≡ true) → (c : Bool) → nat_eq v b.0 ≡ c → (c || bound bs v) ≡ true → test v ≡ true
    go rest true e is = ap test (eqb-true v b.0 e) ∙ parts.0
    go rest false e is = rest is

from-bound : {X : Type 0} (test : ℕ → Bool) (bs : List (ℕ × X)) → ((v : ℕ) → bound bs v ≡ true → test v ≡ true) → list_all (λ b. test b.0) bs ≡ true
from-bound test [] h = refl
from-bound test (b ∷ bs) h =
    and_from _ _ (h b.0 (or_left (nat_eq b.0 b.0) (bound bs b.0) (eq-eqb b.0 b.0 refl)))
    (from-bound test bs (λ v is. h v (or_right (nat_eq v b.0) (bound bs v) is)))

-- what a part binds reads as in the whole
part-node : (c e : Partial) → is_part c e ≡ true → (v : ℕ) → bound c.nodes v ≡ true → look c.nodes v ≡ look e.nodes v
part-node c e h v b = at_same_is (look c.nodes v) (look e.nodes v) (each-bound (λ v. at_same (look c.nodes v) (look e.nodes v)) c.nodes (and_parts (list_all (λ b. at_same (look c.nodes b.0) (look e.nodes b.0)) c.nodes) _ h).0 v b)

part-rel : (c e : Partial) → is_part c e ≡ true → (x : ℕ) → bound c.rels x ≡ true → look c.rels x ≡ look e.rels x
part-rel c e h x b = at_one-is (look c.rels x) (look e.rels x) (each-bound (λ x. at_one (look c.rels x) (look e.rels x)) c.rels (and_parts (list_all (λ b. at_same (look c.nodes b.0) (look e.nodes b.0)) c.nodes) _ h).1 x b)

-- two that read alike are parts of each other
record ReadAlike (c e : Partial) : Type 0 where
  nodes : (v : ℕ) → look c.nodes v ≡ look e.nodes v
  rels : (x : ℕ) → look c.rels x ≡ look e.rels x

part-from : (c e : Partial) → ReadAlike c e → is_part c e ≡ true
part-from c e h =
    and_from _ _
    (from-bound (λ v. at_same (look c.nodes v) (look e.nodes v)) c.nodes (λ v b. (let n = look_some c.nodes v b in ap₂ at_same n.1 (sym (h.nodes v) ∙ n.1) ∙ node-self n.0)))
    (from-bound (λ x. at_one (look c.rels x) (look e.rels x)) c.rels (λ x b. (let r = look_some c.rels x b in ap₂ at_one r.1 (sym (h.rels x) ∙ r.1) ∙ rel-self r.0)))

-- bindings of which each is found, read elsewhere alike
all-found : {X : Type 0} (test : ℕ → X → Bool) (bs all : List (ℕ × X)) → Found bs all → ((v : ℕ) (x : X) → look all v ≡ Some x → test v x ≡ true) → list_all (λ b. test b.0 b.1) bs ≡ true
all-found test [] all found h = refl
all-found test (b ∷ bs) all found h = and_from _ _ (h b.0 b.1 found.0) (all-found test bs all found.1 h)

-- an assignment has what one binds that is alike in it
extends-from : (y : Typed) (c e : Partial) → Owns y c → AreAlike (known_by c) c e → extends c (full y e) ≡ true
extends-from y c e own_c h =
    and_from (nodes_in (full y e) c.nodes) (rels_in (full y e) c.rels)
    (all-found (λ v n. at_same (slice_get (full y e).nodes v) (Some n)) c.nodes c.nodes own_c.nodes (λ v n is. (let there : look e.nodes v ≡ Some n = sym (h.nodes v (look_bound c.nodes v n is)) ∙ is in
    ap (λ o. at_same o (Some n)) (read-at (λ v. unwrap_or (look e.nodes v) no_node) 0 (length y.nodes) v v (own_c.nodes_low v (look_bound c.nodes v n is)) (zero-add v) ∙ ap (λ o. Some (unwrap_or o no_node)) there) ∙ node-self n)))
    (all-found (λ x r. is_rel_at (slice_get (full y e).rels x) r) c.rels c.rels own_c.rels (λ x r is. (let there : look e.rels x ≡ Some r = sym (h.rels x (look_bound c.rels x r is)) ∙ is in
    ap (λ o. is_rel_at o r) (read-at (λ x. unwrap_or (look e.rels x) no_rel) 0 (length y.rels) x x (own_c.rels_low x (look_bound c.rels x r is)) (zero-add x) ∙ ap (λ o. Some (unwrap_or o no_rel)) there) ∙ rel-self r)))

-- what is bound in front, and what behind
front-or-behind : {X : Type 0} (bs cs : List (ℕ × X)) (v : ℕ) → (bound bs v ≡ true → look (bs ++ cs) v ≡ look cs v) → look (bs ++ cs) v ≡ look cs v
front-or-behind [] cs v h = refl
front-or-behind (b ∷ bs) cs v h = go (nat_eq b.0 v) refl h (front-or-behind bs cs v)
  where
    go : (c : Bool) → nat_eq b.0 v ≡ c → ((nat_eq v b.0 || bound bs v) ≡ true → cond c (Some b.1) (look (bs ++ cs) v) ≡ look cs v) → ((bound bs v ≡ true → look (bs ++ cs) v ≡ look cs v) → look (bs ++ cs) v ≡ look cs v)
        → cond c (Some b.1) (look (bs ++ cs) v) ≡ look cs v
    go true e h more = h (or_left (nat_eq v b.0) (bound bs v) (eqb_swap v b.0 ∙ e))
    go false e h more = more (λ b_is. h (or_right (nat_eq v b.0) (bound bs v) b_is))

-- what is bound last, and what before
last-or-before : {X : Type 0} (v : ℕ) (n : X) (bs : List (ℕ × X)) → look ((v, n) ∷ bs) v ≡ look bs v → (w : ℕ) → look ((v, n) ∷ bs) w ≡ look bs w
last-or-before v n bs h w = go (nat_eq v w) refl
  where
    go : (c : Bool) → nat_eq v w ≡ c → cond c (Some n) (look bs w) ≡ look bs w
    go true e = (let same : v ≡ w = eqb-true v w e in subst (λ u. Some n ≡ look bs u) same (ap (λ b. cond b (Some n) (look bs v)) (sym (eq-eqb v v refl)) ∙ h))
    go false e = refl

-- ---- the whole list of a group

module _ (g : Graph) (y : Typed) (rows : List Partial) where
  abbrev Made : Known → Partial → Type 0
  Made k e = Owns y e × (known_by e ≡ k)

  goes_in : (column : Bool) (x from to : ℕ) (way : Direction) (k : Known) → fits_step g.catalog y (Close column x from to way) k ≡ true → x < length y.rels
  unfolding fits_step
  goes_in column x from to way k fit =
      let r = holds_some (goes g.catalog column from to way) (slice_get y.rels x) (and_parts (holds (goes g.catalog column from to way) (slice_get y.rels x)) _ fit).0 in
      Rattle.std.proofs.lemmas.Option.slice_get_within y.rels x r.0 r.1

  join-raw : (side : Plan) (keys : List ℕ) (a : Partial) → HasRows g y rows (Join side keys) → IsPermutation (raw g y rows (Join side keys) a) (step g y (Join side keys) a)
  join-raw side keys a h = subst (λ l. IsPermutation l (step g y (Join side keys) a)) (filter_true (raw g y rows (Join side keys) a)) (step-raw g y rows (Join side keys) a (refl, h))

  -- each place binds just what was bound and what the step binds
  raw-made : (s : Step) (a : Partial) → Owns y a → MakesGroup g y rows s → runs_step g.catalog y s (known_by a) ≡ true → AllByRecursion (Made (after_step s (known_by a))) (raw g y rows s a)
  unfolding after_step
  raw-made (Scan v) a h m fit = owns_step g y (Scan v) a h fit
  raw-made (Extend false x from to way) a h m fit = owns_step g y (Extend false x from to way) a h fit
  raw-made (Extend true x from to way) a h m fit = absurd (true≢false (sym m.0))
  raw-made (Close false x from to way) a h m fit =
      let parts = close_parts g g.catalog y false x from to way (known_by a) fit in
      each_map (λ r. Unit {0}) (Made (known.with_rel x (known_by a))) (λ r. with_rel x r a) (λ r _. made_rel y x r a h (goes_in false x from to way (known_by a) fit) parts.0) (rels_from g y x way (look a.nodes from)) (each_of _ (λ n. tt) _)
  raw-made (Close true x from to way) a h m fit = absurd (true≢false (sym m.0))
  raw-made (Join side keys) a h m fit =
      each_permuted (Made (after_step (Join side keys) (known_by a))) (raw g y rows (Join side keys) a) (step g y (Join side keys) a) (join-raw side keys a m.1) (owns_step g y (Join side keys) a h fit)
  raw-made (Keep i) a h m fit = absurd (true≢false (sym m.0))
  raw-made (Differ p) a h m fit = absurd (true≢false (sym m.0))
  raw-made (NoLoop x) a h m fit = absurd (true≢false (sym m.0))
  raw-made (Single x from to way) a h m fit = absurd (true≢false (sym m.0))
  raw-made (Meet x from to way) a h m fit = absurd (true≢false (sym m.0))

  module _ (real : IsTrue (is_valid g)) (sound : IsSound g.catalog y) (t : Assignment) where
    -- of the relationships at a node at most one is that of an assignment
    rels-few : (x : ℕ) (o : Option NodeId) (way : Direction) → hits (λ r. is_rel_at (slice_get t.rels x) r) (rels_from g y x way o) ≤ 1
    rels-few x o way = go (slice_get y.rels x) refl
      where
        test : RelId → Bool
        test r = at_same o (near g way r)

        swap : (b c : Bool) → cond c (bit b) 0 ≡ bit (b && c)
        swap b c = grind arith

        in_table : (table : ℕ) → hits (λ r. is_rel_at (slice_get t.rels x) r) (filter test (rels_of g table)) ≤ 1
        in_table table =
            subst (λ n. n ≤ 1)
            (sym (total_filter (λ r. bit (is_rel_at (slice_get t.rels x) r)) test (rels_of g table)
            ∙ (λ i. total (λ r. swap (is_rel_at (slice_get t.rels x) r) (test r) i) (rels_of g table))
            ∙ hits_rels_at g table test (slice_get t.rels x)))
            (bit-few (passes_in g table test (slice_get t.rels x)))

        go : (k : Option TypedRel) → slice_get y.rels x ≡ k → hits (λ r. is_rel_at (slice_get t.rels x) r) (rels_from g y x way o) ≤ 1
        go None e = rw e (omega arith)
        go (Some k) e = rw e (in_table k.table)

    cond-few : (c : Bool) (n : ℕ) → n ≤ 1 → cond c n 0 ≤ 1
    cond-few true n h = h
    cond-few false n h = omega arith

    -- an assignment extends at most one place
    raw-few : (s : Step) (a : Partial) → Owns y a → MakesGroup g y rows s → runs_step g.catalog y s (known_by a) ≡ true → hits (λ c. extends c t) (raw g y rows s a) ≤ 1
    raw-few (Scan v) a h m fit = subst (λ n. n ≤ 1) (sym (count_step g y real sound t (Scan v) a h fit)) (bit-few _)
    raw-few (Extend false x from to way) a h m fit = subst (λ n. n ≤ 1) (sym (count_step g y real sound t (Extend false x from to way) a h fit)) (bit-few _)
    raw-few (Extend true x from to way) a h m fit = absurd (true≢false (sym m.0))
    raw-few (Close false x from to way) a h m fit =
        subst (λ n. n ≤ 1)
        (sym (total_map (λ c. bit (extends c t)) (λ r. with_rel x r a) (rels_from g y x way (look a.nodes from))
        ∙ (λ i. total (λ r. bit (extends_with_rel x r a t i)) (rels_from g y x way (look a.nodes from)))
        ∙ hits_and_const (λ r. is_rel_at (slice_get t.rels x) r) (extends a t) (rels_from g y x way (look a.nodes from))))
        (cond-few (extends a t) _ (rels-few x (look a.nodes from) way))
    raw-few (Close true x from to way) a h m fit = absurd (true≢false (sym m.0))
    raw-few (Join side keys) a h m fit =
        subst (λ n. n ≤ 1) (sym (hits_permuted (λ c. extends c t) (raw g y rows (Join side keys) a) (step g y (Join side keys) a) (join-raw side keys a m.1) ∙ count_step g y real sound t (Join side keys) a h fit)) (bit-few _)
    raw-few (Keep i) a h m fit = absurd (true≢false (sym m.0))
    raw-few (Differ p) a h m fit = absurd (true≢false (sym m.0))
    raw-few (NoLoop x) a h m fit = absurd (true≢false (sym m.0))
    raw-few (Single x from to way) a h m fit = absurd (true≢false (sym m.0))
    raw-few (Meet x from to way) a h m fit = absurd (true≢false (sym m.0))

  -- ---- the place of an assignment

  -- a place that is alike to an assignment, in what was known and in what the step binds, reads alike throughout
  raw-part : (s : Step) (k : Known) (e : Partial) → MakesGroup g y rows s → runs_step g.catalog y s k ≡ true → AllByRecursion (λ c. AreAlike (after_step s k) c e → ReadAlike c e) (raw g y rows s e)
  unfolding after_step step fits_step
  raw-part (Scan v) k e m fit =
      each_map (λ n. Unit {0}) (λ c. AreAlike (known.with_node v k) c e → ReadAlike c e) (λ n. with_node v n e)
      (λ n _ as_e. record { nodes = last-or-before v n e.nodes (as_e.nodes v (or_left (nat_eq v v) (k.nodes v) (eq-eqb v v refl))); rels = λ x. refl })
      (nodes_for g y v) (each_of _ (λ n. tt) _)
  raw-part (Extend false x from to way) k e m fit =
      each_flat_map (λ r. Unit {0}) (λ c. AreAlike (known.with_node to (known.with_rel x k)) c e → ReadAlike c e) (λ r. arrive to (far g way r) (with_rel x r e))
      (λ r _. arrived (far g way r) r) (rels_from g y x way (look e.nodes from)) (each_of _ (λ n. tt) _)
    where
      arrived : (o : Option NodeId) (r : RelId) → AllByRecursion (λ c. AreAlike (known.with_node to (known.with_rel x k)) c e → ReadAlike c e) (arrive to o (with_rel x r e))
      arrived None r = tt
      arrived (Some n) r = (
        λ as_e. record {
          nodes = last-or-before to n e.nodes (as_e.nodes to (or_left (nat_eq to to) (k.nodes to) (eq-eqb to to refl)));
          rels = last-or-before x r e.rels (as_e.rels x (or_left (nat_eq x x) (k.rels x) (eq-eqb x x refl)));
        },
        tt,
      )
  raw-part (Extend true x from to way) k e m fit = absurd (true≢false (sym m.0))
  raw-part (Close false x from to way) k e m fit =
      each_map (λ r. Unit {0}) (λ c. AreAlike (known.with_rel x k) c e → ReadAlike c e) (λ r. with_rel x r e)
      (λ r _ as_e. record { nodes = λ v. refl; rels = last-or-before x r e.rels (as_e.rels x (or_left (nat_eq x x) (k.rels x) (eq-eqb x x refl))) })
      (rels_from g y x way (look e.nodes from)) (each_of _ (λ n. tt) _)
  raw-part (Close true x from to way) k e m fit = absurd (true≢false (sym m.0))
  raw-part (Join side keys) k e m fit =
      each_map (λ b. Made (after side none) b × (agree keys e b ≡ true)) (λ c. AreAlike (after_step (Join side keys) k) c e → ReadAlike c e) (λ b. with_all b e)
      (λ b made as_e. record {
        nodes = λ v. front-or-behind b.nodes e.nodes v (λ is. as_e.nodes v (or_left ((after side none).nodes v) (k.nodes v) (ap (λ (q : Known). q.nodes v) (sym made.0.1) ∙ is)));
        rels = λ x. front-or-behind b.rels e.rels x (λ is. as_e.rels x (or_left ((after side none).rels x) (k.rels x) (ap (λ (q : Known). q.rels x) (sym made.0.1) ∙ is)));
      })
      (filter (agree keys e) rows) (each_kept (Made (after side none)) (agree keys e) rows (each_permuted (Made (after side none)) rows (mean g y side nothing) m.1 (owns_mean g y side nothing (owns_nothing y) (and_parts (fits g.catalog y side none) _ fit).0)))
  raw-part (Keep i) k e m fit = absurd (true≢false (sym m.0))
  raw-part (Differ p) k e m fit = absurd (true≢false (sym m.0))
  raw-part (NoLoop x) k e m fit = absurd (true≢false (sym m.0))
  raw-part (Single x from to way) k e m fit = absurd (true≢false (sym m.0))
  raw-part (Meet x from to way) k e m fit = absurd (true≢false (sym m.0))

  module _ (real : IsTrue (is_valid g)) (sound : IsSound g.catalog y) where
    -- the place of a whole list from which an assignment comes is the place that it has there
    place-is : (s : Step) (a e : Partial) (j : ℕ) → MakesGroup g y rows s → Owns y a → runs_step g.catalog y s (known_by a) ≡ true → AreAlike (known_by a) a e
        → j < length (raw g y rows s a) → AreAlike (after_step s (known_by a)) (get_or (raw g y rows s a) j nothing) e → place_in g y rows s e ≡ j
    place-is s a e j m own_a fit h low as_e = first-at (λ c. is_part c e) (raw g y rows s e) nothing j low_e here before
      where
        k : Known
        k = after_step s (known_by a)

        raws : AllZip (AreAlike k) (raw g y rows s a) (raw g y rows s e)
        raws = raw_alike g y rows s (known_by a) a e m fit h

        low_e : j < length (raw g y rows s e)
        low_e = subst (λ n. j < n) (sym (Rattle.std.proofs.lemmas.Slice.Zip.AllZip-long (AreAlike k) (raw g y rows s a) (raw g y rows s e) raws)) low

        here : is_part (get_or (raw g y rows s e) j nothing) e ≡ true
        here =
            part-from (get_or (raw g y rows s e) j nothing) e
            (each_at (λ c. AreAlike k c e → ReadAlike c e) (raw g y rows s e) (raw-part s (known_by a) e m fit) j low_e
            (alike_then k (get_or (raw g y rows s e) j nothing) (get_or (raw g y rows s a) j nothing) e (alike_back k _ _ (zip_at (AreAlike k) (raw g y rows s a) (raw g y rows s e) raws j low)) as_e))
          where
            alike_back : (k : Known) (a b : Partial) → AreAlike k a b → AreAlike k b a
            alike_back k a b h = record { nodes = λ v i. sym (h.nodes v i); rels = λ x i. sym (h.rels x i) }

        made : (i : ℕ) → i < length (raw g y rows s a) → Made k (get_or (raw g y rows s a) i nothing)
        made i below = each_at (Made k) (raw g y rows s a) (raw-made s a own_a m fit) i below

        -- a place that is a part, an assignment extends
        extended : (i : ℕ) → i < length (raw g y rows s a) → AreAlike k (get_or (raw g y rows s a) i nothing) e → extends (get_or (raw g y rows s a) i nothing) (full y e) ≡ true
        extended i below as_i = extends-from y (get_or (raw g y rows s a) i nothing) e (made i below).0 (subst (λ q. AreAlike q (get_or (raw g y rows s a) i nothing) e) (sym (made i below).1) as_i)

        before : (i : ℕ) → i < j → is_part (get_or (raw g y rows s e) i nothing) e ≡ false
        before i less = go (is_part (get_or (raw g y rows s e) i nothing) e) refl
          where
            below : i < length (raw g y rows s a)
            below = omega (arith, less, low)

            beside : AreAlike k (get_or (raw g y rows s a) i nothing) (get_or (raw g y rows s e) i nothing)
            beside = zip_at (AreAlike k) (raw g y rows s a) (raw g y rows s e) raws i below

            known_there : {X : Type 0} (bs cs : List (ℕ × X)) (v : ℕ) → bound bs v ≡ true → look bs v ≡ look cs v → bound cs v ≡ true
            known_there bs cs v b same = (let some = look_some bs v b in look_bound cs v some.0 (sym same ∙ some.1))

            go : (b : Bool) → is_part (get_or (raw g y rows s e) i nothing) e ≡ b → is_part (get_or (raw g y rows s e) i nothing) e ≡ false
            go false is = is
            go true is =
                let c = get_or (raw g y rows s a) i nothing in
                let d = get_or (raw g y rows s e) i nothing in
                let as_i : AreAlike k c e = record {
                  nodes = λ v b. beside.nodes v b ∙ part-node d e is v (known_there c.nodes d.nodes v (ap (λ (q : Known). q.nodes v) (made i below).1 ∙ b) (beside.nodes v b));
                  rels = λ x b. beside.rels x b ∙ part-rel d e is x (known_there c.rels d.rels x (ap (λ (q : Known). q.rels x) (made i below).1 ∙ b) (beside.rels x b));
                } in
                absurd (true≢false (sym (extended i below as_i) ∙ few-before (λ c. extends c (full y e)) (raw g y rows s a) nothing i j (raw-few real sound (full y e) s a own_a m fit) less low (extended j low as_e)))

-- ---- walks

-- the numbers that the places of a walk have in a key
abbrev numbers : (ℕ → Bool) → ℕ → List ℕ → List ℕ
numbers flat i [] = []
numbers flat i (j ∷ w) = number_of (flat i) j ∷ numbers flat (i + 1) w

low-numbers : (x n m : ℕ) → x + n ≤ m → AllByRecursion (λ j. j < m) (numbers_from x n)
low-numbers x zero m h = tt
low-numbers x (suc n) m h = (omega (arith, h), low-numbers (x + 1) n m (omega (arith, h)))

module _ (g : Graph) (y : Typed) (real : IsTrue (is_valid g)) (sound : IsSound g.catalog y) (rows : ℕ → List Partial) (flat : ℕ → Bool) where
  placed_in : (ks : List Step) (p : Plan) (k : Known) → NoGroups ks → runs g.catalog y (checked ks p) k ≡ true → ArePlaced g.catalog y ks k × (runs g.catalog y p (after_all ks k) ≡ true)
  unfolding runs
  placed_in [] p k small fit = (tt, fit)
  placed_in (s ∷ ks) p k small fit =
      let parts = and_parts (runs_step g.catalog y s k) (runs g.catalog y (checked ks p) (after_step s k)) fit in
      let rest = placed_in ks p (after_step s k) small.1 parts.1 in
      ((no_join s small.0, parts.0, rest.0), rest.1)

  follow-made : (ks : List Step) (c : Partial) (k : Known) → Owns y c → known_by c ≡ k → ArePlaced g.catalog y ks k → AllByRecursion (λ d. Owns y d × (known_by d ≡ after_all ks k)) (follow g y ks c)
  unfolding mean
  follow-made [] c k h is placed = ((h, is), tt)
  follow-made (s ∷ ks) c k h is placed =
      each_flat_map (λ d. Owns y d × (known_by d ≡ after_step s (known_by c))) (λ d. Owns y d × (known_by d ≡ after_all ks (after_step s k))) (follow g y ks)
      (λ d made. follow-made ks d (after_step s k) made.0 (made.1 ∙ ap (after_step s) is) placed.2)
      (step g y s c) (owns_run g y s c h (subst (λ q. runs_step g.catalog y s q ≡ true) (sym is) placed.1))

  kept-made : (i : ℕ) (b : Group) (c : Partial) (k : Known) → Owns y c → known_by c ≡ k → ArePlaced g.catalog y b.checks k → AllByRecursion (λ d. Owns y d × (known_by d ≡ after_all b.checks k)) (kept g y b c)
  kept-made i b c k h is placed = go (own g y b.binds c) (follow-made b.checks c k h is placed)
    where
      go : (o : Bool) → AllByRecursion (λ d. Owns y d × (known_by d ≡ after_all b.checks k)) (follow g y b.checks c) → AllByRecursion (λ d. Owns y d × (known_by d ≡ after_all b.checks k)) (cond o (follow g y b.checks c) [])
      go true z = z
      go false z = tt

  -- what is bound along a walk; whatever is bound so keeps what was bound, and has the numbers of the walk as its key
  abbrev Goes : ℕ → List Group → Partial → Partial → List ℕ → Type 0
  Goes i gs a d w = (known_by d ≡ after (plan_of gs) (known_by a)) × ((e : Partial) → AreAlike (known_by d) d e → AreAlike (known_by a) a e × (key_in g y rows flat i (makers gs) e ≡ numbers flat i w))

  after-checked : (ks : List Step) (p : Plan) (k : Known) → after (checked ks p) k ≡ after p (after_all ks k)
  unfolding after
  after-checked [] p k = refl
  after-checked (s ∷ ks) p k = after-checked ks p (after_step s k)

  walked : (gs : List Group) (i : ℕ) (a : Partial) → Owns y a → runs g.catalog y (plan_of gs) (known_by a) ≡ true → AreCut gs → HaveRows g y rows i gs
      → AllByRecursion (λ w. Goes i gs a (decode g y rows i gs a w) w) (choices g y rows i gs a)
  unfolding runs after
  walked [] i a h fit cut have = ((refl, λ e as_e. (as_e, refl)), tt)
  walked (b ∷ gs) i a h fit cut have =
      each_flat_map (λ j. (j < length (raw g y (rows i) b.binds a)) × (passes g y b (raw_at g y (rows i) b a j) ≡ true)) (λ w. Goes i (b ∷ gs) a (decode g y rows i (b ∷ gs) a w) w)
      (λ j. map (λ w. j ∷ w) (choices g y rows (i + 1) gs (place g y (rows i) b a j)))
      (λ j there. each_map (λ w. Goes (i + 1) gs (place g y (rows i) b a j) (decode g y rows (i + 1) gs (place g y (rows i) b a j) w) w) (λ w. Goes i (b ∷ gs) a (decode g y rows i (b ∷ gs) a w) w) (λ w. j ∷ w)
      (λ w goes. further j there.0 there.1 (decode g y rows (i + 1) gs (place g y (rows i) b a j) w) w goes)
      (choices g y rows (i + 1) gs (place g y (rows i) b a j))
      (walked gs (i + 1) (place g y (rows i) b a j) (here j there.0 there.1).0 (subst (λ q. runs g.catalog y (plan_of gs) q ≡ true) (sym (here j there.0 there.1).1) rest.1) cut.2 have.1))
      (filter (λ j. passes g y b (raw_at g y (rows i) b a j)) (numbers_from 0 (length (raw g y (rows i) b.binds a))))
      (each_kept (λ j. j < length (raw g y (rows i) b.binds a)) (λ j. passes g y b (raw_at g y (rows i) b a j)) (numbers_from 0 (length (raw g y (rows i) b.binds a))) (low-numbers 0 (length (raw g y (rows i) b.binds a)) (length (raw g y (rows i) b.binds a)) (omega arith)))
    where
      k : Known
      k = after_step b.binds (known_by a)

      parts : (runs_step g.catalog y b.binds (known_by a) ≡ true) × (runs g.catalog y (checked b.checks (plan_of gs)) k ≡ true)
      parts = and_parts (runs_step g.catalog y b.binds (known_by a)) (runs g.catalog y (checked b.checks (plan_of gs)) (after_step b.binds (known_by a))) fit

      rest : ArePlaced g.catalog y b.checks k × (runs g.catalog y (plan_of gs) (after_all b.checks k) ≡ true)
      rest = placed_in b.checks (plan_of gs) k cut.1 parts.1

      made_at : (j : ℕ) → j < length (raw g y (rows i) b.binds a) → Owns y (raw_at g y (rows i) b a j) × (known_by (raw_at g y (rows i) b a j) ≡ k)
      made_at j low = each_at (λ c. Owns y c × (known_by c ≡ k)) (raw g y (rows i) b.binds a) (raw-made g y (rows i) b.binds a h (cut.0, have.0) parts.0) j low

      here : (j : ℕ) → j < length (raw g y (rows i) b.binds a) → passes g y b (raw_at g y (rows i) b a j) ≡ true → Owns y (place g y (rows i) b a j) × (known_by (place g y (rows i) b a j) ≡ after_all b.checks k)
      here j low there = each_first (λ d. Owns y d × (known_by d ≡ after_all b.checks k)) (kept g y b (raw_at g y (rows i) b a j)) (kept-made i b (raw_at g y (rows i) b a j) k (made_at j low).0 (made_at j low).1 rest.0) there

      after_keeps : (ks : List Step) (q : Known) (c d : Partial) → AreAlike (after_all ks q) c d → AreAlike q c d
      after_keeps [] q c d z = z
      after_keeps (s ∷ ks) q c d z = less_known s q c d (after_keeps ks (after_step s q) c d z)

      further : (j : ℕ) → j < length (raw g y (rows i) b.binds a) → passes g y b (raw_at g y (rows i) b a j) ≡ true → (d : Partial) (w : List ℕ) → Goes (i + 1) gs (place g y (rows i) b a j) d w → Goes i (b ∷ gs) a d (j ∷ w)
      further j low there d w rest_goes = (
        rest_goes.0 ∙ ap (after (plan_of gs)) (here j low there).1 ∙ sym (after-checked b.checks (plan_of gs) k),
        λ e as_d. (let to_place : AreAlike k (raw_at g y (rows i) b a j) (place g y (rows i) b a j) = each_first (AreAlike k (raw_at g y (rows i) b a j)) (kept g y b (raw_at g y (rows i) b a j)) (kept_keeps g y (rows i) b (known_by a) (raw_at g y (rows i) b a j) rest.0) there in
            let onward : AreAlike k (place g y (rows i) b a j) e = after_keeps b.checks k (place g y (rows i) b a j) e (subst (λ q. AreAlike q (place g y (rows i) b a j) e) (here j low there).1 (rest_goes.1 e as_d).0) in
            let as_e : AreAlike k (raw_at g y (rows i) b a j) e = alike_then k (raw_at g y (rows i) b a j) (place g y (rows i) b a j) e to_place onward in
            let from_a : AreAlike (known_by a) a e =
            alike_then (known_by a) a (raw_at g y (rows i) b a j) e (each_at (AreAlike (known_by a) a) (raw g y (rows i) b.binds a) (raw_keeps g y (rows i) b.binds (known_by a) a (cut.0, have.0) parts.0) j low) (less_known b.binds (known_by a) (raw_at g y (rows i) b a j) e as_e) in (
              from_a,
              ap₂ ◌∷◌ (ap (number_of (flat i)) (place-is g y (rows i) real sound b.binds a e j (cut.0, have.0) h parts.0 from_a low as_e)) (rest_goes.1 e as_d).1,
            )),
      )

  numbers_key : (gs : List Group) (pre w : List ℕ) (i : ℕ) → length pre ≡ i → key_of (layout_of g y rows flat gs) pre w ≡ numbers flat i w
  numbers_key gs pre [] i is = refl
  numbers_key gs pre (j ∷ w) i is =
      ap₂ ◌∷◌ (ap (λ n. number_of (flat n) j) is)
      (numbers_key gs (pre ++ number_of (flat (length pre)) j ∷ []) w (i + 1) (Rattle.std.proofs.lemmas.List.length-append pre (number_of (flat (length pre)) j ∷ []) ∙ ap (λ n. n + 1) is))

-- the law
pub keys_of_assignments : KeysOfAssignments
keys_of_assignments g y rows flat gs real sound fit cut have enough =
    subst (AllByRecursion Has)
    (sym (walks_are_choices g y rows (layout_of g y rows flat gs) gs [] 0 nothing (layout_follows g y rows flat gs (are_groups g y real rows 0 gs none cut fit have) enough)))
    (each_then (λ w. Goes g y real sound rows flat 0 gs nothing (decode g y rows 0 gs nothing w) w) Has
    (λ w walk e as_e. (walk.1 e (record { nodes = λ v is. as_e.nodes v (ap (λ (q : Known). q.nodes v) (sym walk.0) ∙ is); rels = λ x is. as_e.rels x (ap (λ (q : Known). q.rels x) (sym walk.0) ∙ is) })).1 ∙ sym (numbers_key g y real sound rows flat gs [] w 0 refl))
    (choices g y rows 0 gs nothing) (walked g y real sound rows flat gs 0 nothing (owns_nothing y) fit cut have))
  where
    Has : List ℕ → Type 0
    Has w = (e : Partial) → IsAs (after (plan_of gs) none) (decode g y rows 0 gs nothing w) e → key_in g y rows flat 0 (makers gs) e ≡ key_of (layout_of g y rows flat gs) [] w

-- the law of what is owed
each_both : {X : Type 0} (P Q R : X → Type 0) → ((x : X) → P x → Q x → R x) → (xs : List X) → AllByRecursion P xs → AllByRecursion Q xs → AllByRecursion R xs
each_both P Q R h [] p q = tt
each_both P Q R h (x ∷ xs) p q = (h x p.0 q.0, each_both P Q R h xs p.1 q.1)

pub keys_of_rest : KeysOfRest
keys_of_rest g y rows flat gs means spot real sound fit cut have enough as_means =
    keys_of_owed (layout_of g y rows flat gs) (length gs) spot (map (key_in g y rows flat 0 (makers gs)) (map means (owed_walks (layout_of g y rows flat gs) (length gs) spot)))
    (same_bag _ _ (same (owed_walks (layout_of g y rows flat gs) (length gs) spot) (owed spot)))
  where
    Has : List ℕ → Type 0
    Has w = key_in g y rows flat 0 (makers gs) (means w) ≡ key_of (layout_of g y rows flat gs) [] w

    all : AllByRecursion Has (walks (layout_of g y rows flat gs) (length gs) [])
    all =
        each_both (λ w. (e : Partial) → IsAs (after (plan_of gs) none) (decode g y rows 0 gs nothing w) e → key_in g y rows flat 0 (makers gs) e ≡ key_of (layout_of g y rows flat gs) [] w)
        (λ w. IsAs (after (plan_of gs) none) (decode g y rows 0 gs nothing w) (means w)) Has (λ w h as_w. h (means w) as_w)
        (walks (layout_of g y rows flat gs) (length gs) []) (keys_of_assignments g y rows flat gs real sound fit cut have enough) as_means

    owed : (spot : Spot) → AllByRecursion Has (owed_walks (layout_of g y rows flat gs) (length gs) spot)
    owed Before = all
    owed (At k) = each_then (λ w. Has w × (later k (key_of (layout_of g y rows flat gs) [] w) ≡ true)) Has (λ w h. h.0) _ (each_kept Has (λ w. later k (key_of (layout_of g y rows flat gs) [] w)) (walks (layout_of g y rows flat gs) (length gs) []) all)
    owed Over = tt

    same : (ws : List (List ℕ)) → AllByRecursion Has ws → map (key_in g y rows flat 0 (makers gs)) (map means ws) ≡ map (key_of (layout_of g y rows flat gs) []) ws
    same [] h = refl
    same (w ∷ ws) h = ap₂ ◌∷◌ h.0 (same ws h.1)
