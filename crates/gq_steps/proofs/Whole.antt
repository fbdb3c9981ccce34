-- The whole list of a group: what its step makes of it place by place, and what all steps of the group make of a place.
use Rattle.std.proofs.Common.{◌≡◌, ℕ, zero, suc, ◌+◌, ◌<◌, Bool, true, false, cond, Some, List, [], ◌∷◌, ◌++◌, map, filter, flat_map, length, get_or, slice_get, refl, sym, ap, ◌∙◌, subst, arith, true≢false}
use Rattle.std.specs.List.{range_with_len, AllByRecursion}
use Rattle.std.proofs.lemmas.Bool.{and_parts, eq-eqb}
use Rattle.std.proofs.lemmas.List.{append-nil, length-map}
use Rattle.gq_base.specs.Plain.{Graph, rels_at}
use Rattle.gq_base.specs.declared.NodeId.{NodeId}
use Rattle.gq_base.specs.declared.RelId.{RelId}
use Rattle.gq_base.specs.declared.RelTable.{RelTable}
use Rattle.gq_base.specs.declared.direction.Direction.{Direction}
use Rattle.gq_plan.specs.Allowed.{at_same}
use Rattle.gq_plan.specs.Assignments.{rels_of}
use Rattle.gq_plan.specs.Covers.{fits_step, goes}
use Rattle.gq_plan.specs.Halves.{runs_step}
use Rattle.gq_plan.specs.Known.{Known}
use Rattle.gq_plan.specs.Meaning.{Partial, nothing, with_node, with_rel, with_all, look, near, far, nodes_for, rels_from, arrive, keep_if, agree, holds, mean, step}
use Rattle.gq_plan.specs.Plans.{Step, Scan, Extend, Close, Join, Keep, Differ, NoLoop, Single, Meet, steps}
use Rattle.gq_plan.specs.declared.assignment.Assignment.{Assignment}
use Rattle.gq_plan.specs.declared.typed.Typed.{Typed}
use Rattle.gq_law_groups.specs.Groups.{makes_group, raw, own, kept, raw_at, follow, checked}
use Rattle.gq_steps.specs.Keeps.{made_by, made_at}
use Rattle.gq_steps.specs.Levels.{Run, step_at, built_at, before}
use Rattle.gq_steps.specs.Groups.{group_in}
use Rattle.gq_steps.specs.Moves.{IsRun}
use Rattle.gq_steps.specs.Tries.{tries}
use Rattle.gq_steps.specs.declared.group_steps.GroupSteps.{GroupSteps}
use Rattle.gq_steps.proofs.Followed.{rel, far_is}
use Rattle.gq_steps.proofs.Stepping.{Follows, follows}
use Rattle.gq_join.proofs.Sorting.{all_filter}

-- a list of lists of one
abbrev pub one_if : Bool → Partial → List Partial
one_if b e = cond b (e ∷ []) []

map_map : {X Y Z : Type 0} (f : Y → Z) (h : X → Y) (xs : List X) → map f (map h xs) ≡ map (λ x. f (h x)) xs
map_map f h [] = refl
map_map f h (x ∷ xs) = ap (λ l. f (h x) ∷ l) (map_map f h xs)

at_map : {X Y : Type 0} (f : X → Y) (xs : List X) (j : ℕ) (d : Y) (e : X) → j < length xs → get_or (map f xs) j d ≡ f (get_or xs j e)
at_map f [] j d e low = absurd (omega arith)
at_map f (x ∷ xs) zero d e low = refl
at_map f (x ∷ xs) (suc j) d e low = at_map f xs j d e (omega arith)

range_all : (P : RelId → Type 0) (f : ℕ → RelId) (a n : ℕ) → ((i : ℕ) → i < n → P (f (a + i))) → AllByRecursion P (map f (range_with_len a n))
range_all P f a zero h = tt
range_all P f a (suc n) h =
    let here : a + 0 ≡ a = omega arith in
    (subst (λ i. P (f i)) here (h 0 (omega arith)), range_all P f (a + 1) n (λ i low. let there : a + suc i ≡ a + 1 + i = omega arith in subst (λ j. P (f j)) there (h (suc i) (omega arith))))

-- each relationship of a table has a node to which it leads
record Leads (g : Graph) (way : Direction) (r : RelId) : Type 0 where
  node : NodeId
  is : far g way r ≡ Some node

all_lead : (g : Graph) (t : ℕ) (k : RelTable) (way : Direction) → slice_get g.catalog.rels t ≡ Some k → AllByRecursion (Leads g way) (rels_of g t)
unfolding rels_of
all_lead g t k way is = range_all (Leads g way) (rel t) 0 (length (rels_at g t)) (λ i low. record { node = _; is = far_is g t k is way (0 + i) (omega (arith, low)) })

arrivals : (g : Graph) (v x : ℕ) (way : Direction) (a : Partial) (rs : List RelId) → AllByRecursion (Leads g way) rs
    → map (λ r. arrive v (far g way r) (with_rel x r a)) rs ≡ map (λ e. e ∷ []) (flat_map (λ r. arrive v (far g way r) (with_rel x r a)) rs)
arrivals g v x way a [] h = refl
arrivals g v x way a (r ∷ rs) h =
    ap (λ o. arrive v o (with_rel x r a) ∷ map (λ r. arrive v (far g way r) (with_rel x r a)) rs) h.0.is
    ∙ ap (λ l. (with_node v h.0.node (with_rel x r a) ∷ []) ∷ l) (arrivals g v x way a rs h.1)
    ∙ ap (λ o. map (λ e. e ∷ []) (arrive v o (with_rel x r a) ++ flat_map (λ r. arrive v (far g way r) (with_rel x r a)) rs)) (sym h.0.is)

module _ (c : Run) (run : IsRun c) where
  abbrev g : Graph
  g = c.graph

  abbrev y : Typed
  y = c.typed

  -- each place of the whole list is tried
  pub raw_tries : (built : List Partial) (s : Step) (k : Known) (a : Partial) → makes_group s ≡ true → runs_step g.catalog y s k ≡ true → tries g y built s a ≡ map (λ e. one_if (own g y s e) e) (raw g y built s a)
  unfolding tries step fits_step
  raw_tries built (Scan v) k a makes fit = sym (map_map (λ e. e ∷ []) (λ n. with_node v n a) (nodes_for g y v))
  raw_tries built (Extend true x from to way) k a makes fit = absurd (true≢false (sym makes))
  raw_tries built (Extend false x from to way) k a makes fit =
      let f : Follows c x from to way = follows c run false x from to way (and_parts (holds (goes g.catalog false from to way) (slice_get y.rels x)) _ fit).0 in
      let all : AllByRecursion (Leads g way) (rels_of g f.found.table) = all_lead g f.found.table f.table way f.table_at in
      arrivals g to x way a (rels_from g y x way (look a.nodes from)) (all_filter (Leads g way) (λ r. at_same (look a.nodes from) (near g way r)) _ (rw f.rel_is all))
  raw_tries built (Close true x from to way) k a makes fit = absurd (true≢false (sym makes))
  raw_tries built (Close false x from to way) k a makes fit = go (rels_from g y x way (look a.nodes from))
    where
      one : (b : Bool) (e : Partial) → keep_if b e ≡ cond b (e ∷ []) []
      one true e = refl
      one false e = refl

      go : (rs : List RelId) → map (λ r. keep_if (at_same (look a.nodes to) (far g way r)) (with_rel x r a)) rs ≡ map (λ e. one_if (own g y (Close false x from to way) e) e) (map (λ r. with_rel x r a) rs)
      go [] = refl
      go (r ∷ rs) = rw (eq-eqb x x refl, one (at_same (look a.nodes to) (far g way r)) (with_rel x r a)) (ap (λ l. cond (at_same (look a.nodes to) (far g way r)) (with_rel x r a ∷ []) [] ∷ l) (go rs))
  raw_tries built (Join side keys) k a makes fit = sym (map_map (λ e. e ∷ []) (λ b. with_all b a) (filter (agree keys a) built))
  raw_tries built (Keep i) k a makes fit = absurd (true≢false (sym makes))
  raw_tries built (Differ p) k a makes fit = absurd (true≢false (sym makes))
  raw_tries built (NoLoop x) k a makes fit = absurd (true≢false (sym makes))
  raw_tries built (Single x from to way) k a makes fit = absurd (true≢false (sym makes))
  raw_tries built (Meet x from to way) k a makes fit = absurd (true≢false (sym makes))

  pub raw_long : (built : List Partial) (s : Step) (k : Known) (a : Partial) → makes_group s ≡ true → runs_step g.catalog y s k ≡ true → length (tries g y built s a) ≡ length (raw g y built s a)
  raw_long built s k a makes fit = ap length (raw_tries built s k a makes fit) ∙ length-map (raw g y built s a) (λ e. one_if (own g y s e) e)

  same_plan : (ss : List Step) → steps ss ≡ checked ss Rattle.gq_plan.specs.Plans.Done
  same_plan [] = refl
  same_plan (s ∷ ss) = ap (Rattle.gq_plan.specs.Plans.Then s) (same_plan ss)

  -- what the steps of a group make of a place
  pub made_is : (s : GroupSteps) (k : Known) (row : Assignment) (place : ℕ) → makes_group (step_at c s.first) ≡ true → runs_step g.catalog y (step_at c s.first) k ≡ true
      → place < length (raw g y (built_at c s.first) (step_at c s.first) (before c row s.first))
      → made_at c s place row ≡ kept g y (group_in c.steps s) (raw_at g y (built_at c s.first) (group_in c.steps s) (before c row s.first) place)
  made_is s k row place makes fit low =
      let e : Partial = raw_at g y (built_at c s.first) (group_in c.steps s) (before c row s.first) place in
      ap (λ l. flat_map (made_by c (s.first + 1) s.end) (get_or l place [])) (raw_tries (built_at c s.first) (step_at c s.first) k (before c row s.first) makes fit)
      ∙ ap (flat_map (made_by c (s.first + 1) s.end)) (at_map (λ e. one_if (own g y (step_at c s.first) e) e) (raw g y (built_at c s.first) (step_at c s.first) (before c row s.first)) place [] nothing low)
      ∙ go e (own g y (step_at c s.first) e)
    where
      go : (e : Partial) (b : Bool) → flat_map (made_by c (s.first + 1) s.end) (cond b (e ∷ []) []) ≡ cond b (follow g y (group_in c.steps s).checks e) []
      go e true = append-nil (made_by c (s.first + 1) s.end e) ∙ ap (λ p. mean g y p e) (same_plan (group_in c.steps s).checks)
      go e false = refl
