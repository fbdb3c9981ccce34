-- A match of a query's core as a row: the program's walker owes there the rows that trails make.
use Rattle.std.proofs.Common.{◌≡◌, ℕ, suc, ◌+◌, ◌<◌, ◌≤◌, Bool, true, false, ◌||◌, cond, nat_eq, nat_lt, Option, Some, None, List, [], ◌∷◌, ◌++◌, map, length, slice_get, ◌⊎◌, inl, inr, refl, sym, ap, ap₂, ◌∙◌, arith, true≢false}
use Rattle.std.specs.List.{AllByRecursion, list_all}
use Rattle.std.proofs.lemmas.Bool.{and_parts, cases_eq, eq-eqb, ne_eqb, or_right}
use Rattle.std.proofs.lemmas.List.Elements.{All-from_recursion}
use Rattle.gq_base.specs.Plain.{Graph}
use Rattle.gq_base.specs.declared.NodeId.{NodeId}
use Rattle.gq_base.specs.declared.RelId.{RelId}
use Rattle.gq_alternatives.specs.Alternatives.{Reading, typed_rels}
use Rattle.gq_law_reaches.specs.Core.{begin_of, core_nodes, numbered, part_of, parts_from, patterns_of, trail_parts}
use Rattle.gq_law_reaches.specs.Cores.{AreReached}
use Rattle.gq_law_reaches.specs.Reaches.{TrailPattern, rels_in}
use Rattle.gq_law_reaches.proofs.Cored.{numbered_items}
use Rattle.gq_law_reaches.proofs.Orders.{core_reaches, ends_from}
use Rattle.gq_law_trails.specs.Trails.{Trailing, after_trails}
use Rattle.gq_plan.specs.declared.TrailPart.{TrailPart}
use Rattle.gq_plan.specs.Assignments.{Assignment, is_node}
use Rattle.gq_plan.specs.Meaning.{Partial, found, row}
use Rattle.gq_plan.specs.Soundness.{has_number}
use Rattle.gq_plan.specs.declared.NamedExpr.{NamedExpr}
use Rattle.gq_scopes.specs.Patterns.{MapEntry, Pattern, RelPattern}
use Rattle.gq_trails.specs.Trekking.{AreInTurn, AreNodes, HasLength, partial_of, patterns_from, patterns_in, placed_from}
use Rattle.gq_outer.specs.Rows.{Wide, item_at}
use Rattle.gq_law_cores.specs.Walking.{CoresAreInTurn, IsCoreRow, OwedAreTrailRows, PartsHaveEnds, PartsHaveLength}

-- ---- a row of a match as what is bound

module _ {X : Type 0} where
  nothing_placed : (i : ℕ) (os : List (Option X)) → ((v : ℕ) → item_at os v ≡ None) → placed_from i os ≡ []
  nothing_placed i [] h = refl
  nothing_placed i (None ∷ os) h = nothing_placed (i + 1) os (λ v. h (suc v))
  nothing_placed i (Some x ∷ os) h = absurd (cc (h 0))

  pub placed_so : (i : ℕ) (os : List (Option X)) (xs : List X) → ((v : ℕ) → item_at os v ≡ slice_get xs v) → placed_from i os ≡ numbered i xs
  placed_so i [] [] h = refl
  placed_so i [] (x ∷ xs) h = absurd (cc (h 0))
  placed_so i (None ∷ os) [] h = nothing_placed (i + 1) os (λ v. h (suc v))
  placed_so i (None ∷ os) (x ∷ xs) h = absurd (cc (h 0))
  placed_so i (Some y ∷ os) [] h = absurd (cc (h 0))
  placed_so i (Some y ∷ os) (x ∷ xs) h =
      let first : Some y ≡ Some x = h 0 in
      let same : y ≡ x = cc in
      ap₂ (λ z bs. (i, z) ∷ bs) same (placed_so (i + 1) os xs (λ v. h (suc v)))

pub begin_so : (t : Assignment) (r : Wide) → IsCoreRow t r → partial_of r ≡ begin_of t
begin_so t r is = λ i. record { nodes = placed_so 0 r.nodes t.nodes is.nodes i; rels = placed_so 0 r.rels t.rels is.rels i }

-- ---- the relationships of each clause

patterns_so : (clause : ℕ) (ps : List RelPattern) (cs : List Reading) (rs : List RelId) (x : ℕ) (get : ℕ → Option RelId) → length cs ≡ length ps
    → ((j : ℕ) → get (x + j) ≡ slice_get rs j) → patterns_from x (typed_rels ps cs) get clause ≡ rels_in clause ps rs
patterns_so clause [] cs rs x get e h = refl
patterns_so clause (p ∷ ps) [] rs x get e h = absurd (omega arith)
patterns_so clause (p ∷ ps) (c ∷ cs) [] x get e h =
    let here : x ≡ x + 0 = omega arith in
    ap₂ (λ o l. cond (nat_eq p.clause clause) (found o) [] ++ l) (ap get here ∙ h 0)
    (patterns_so clause ps cs [] (x + 1) get (omega arith) (λ j. let next : x + 1 + j ≡ x + suc j = omega arith in ap get next ∙ h (suc j)))
    ∙ nothing_else (nat_eq p.clause clause) (rels_in clause ps []) (rels_none ps)
  where
    rels_none : (ps : List RelPattern) → rels_in clause ps [] ≡ []
    rels_none [] = refl
    rels_none (p ∷ ps) = refl

    nothing_else : (b : Bool) (l : List RelId) → l ≡ [] → cond b [] [] ++ l ≡ []
    nothing_else true l e = e
    nothing_else false l e = e
patterns_so clause (p ∷ ps) (c ∷ cs) (r ∷ rs) x get e h =
    let here : x ≡ x + 0 = omega arith in
    ap₂ (λ o l. cond (nat_eq p.clause clause) (found o) [] ++ l) (ap get here ∙ h 0)
    (patterns_so clause ps cs rs (x + 1) get (omega arith) (λ j. let next : x + 1 + j ≡ x + suc j = omega arith in ap get next ∙ h (suc j)))

all_patterns_so : (p : Pattern) (cs : List Reading) (t : Assignment) (r : Wide) → length cs ≡ length p.rels → IsCoreRow t r
    → patterns_in (typed_rels p.rels cs) r.rels ≡ patterns_of p (begin_of t)
all_patterns_so p cs t r readings is = λ i clause. one clause i
  where
    one : (clause : ℕ) → patterns_in (typed_rels p.rels cs) r.rels clause ≡ patterns_of p (begin_of t) clause
    one clause =
        patterns_so clause p.rels cs t.rels 0 (item_at r.rels) readings (λ j. let zeroed : 0 + j ≡ j = omega arith in ap (item_at r.rels) zeroed ∙ is.rels j)
        ∙ ap (rels_in clause p.rels) (sym (numbered_items 0 t.rels))

pub owed_are_trail_rows : OwedAreTrailRows
owed_are_trail_rows g test q cs t r readings is =
    ap₂ (λ (patterns : ℕ → List RelId) (a : Partial). map (λ (m : Trailing). row m.row) (after_trails g patterns (trail_parts test q) a []))
    (all_patterns_so q.pattern cs t r readings is) (begin_so t r is)

-- ---- where trails start

module _ (test : MapEntry → NamedExpr) (p : Pattern) where
  turn_one : (left right : Bool) (k : ℕ → Bool) (w : TrailPattern) → (left || right) ≡ true → k w.left ≡ left → k w.right ≡ right
      → (k (part_of test p left right w).from ≡ true) × (k (part_of test p left right w).to ≡ (part_of test p left right w).both)
  turn_one true true k w one l r = (l, r)
  turn_one true false k w one l r = (l, r)
  turn_one false true k w one l r = (r, l)
  turn_one false false k w one l r = absurd (true≢false (sym one))

  more_known : (left right : Bool) (k : ℕ → Bool) (w : TrailPattern) → (left || right) ≡ true → k w.left ≡ left → k w.right ≡ right
      → (v : ℕ) → (nat_eq v (part_of test p left right w).to || k v) ≡ (nat_eq v w.left || (nat_eq v w.right || k v))
  more_known true right k w one l r v = go (cases_eq v w.left)
    where
      go : (v ≡ w.left) ⊎ (v ≡ w.left → ⊥) → (nat_eq v w.right || k v) ≡ (nat_eq v w.left || (nat_eq v w.right || k v))
      go (inl e) = or_right (nat_eq v w.right) (k v) (ap k e ∙ l) ∙ sym (ap (λ c. c || (nat_eq v w.right || k v)) (eq-eqb v w.left e))
      go (inr other) = sym (ap (λ c. c || (nat_eq v w.right || k v)) (ne_eqb v w.left other))
  more_known false true k w one l r v = ap (λ c. nat_eq v w.left || c) (go (cases_eq v w.right))
    where
      go : (v ≡ w.right) ⊎ (v ≡ w.right → ⊥) → k v ≡ (nat_eq v w.right || k v)
      go (inl e) = ap k e ∙ r ∙ sym (ap (λ c. c || k v) (eq-eqb v w.right e))
      go (inr other) = sym (ap (λ c. c || k v) (ne_eqb v w.right other))
  more_known false false k w one l r v = absurd (true≢false (sym one))

  turns_from : (ws : List TrailPattern) (known : List ℕ) (k : ℕ → Bool) → ((v : ℕ) → k v ≡ has_number known v) → AreReached known ws → AreInTurn (parts_from test p known ws) k
  turns_from [] known k same reached = tt
  turns_from (w ∷ ws) known k same reached =
      let q : TrailPart = part_of test p (has_number known w.left) (has_number known w.right) w in
      let here = turn_one (has_number known w.left) (has_number known w.right) k w reached.0 (same w.left) (same w.right) in (
        here.0,
        here.1,
        turns_from ws (w.left ∷ w.right ∷ known) (λ v. nat_eq v q.to || k v)
            (λ v. more_known (has_number known w.left) (has_number known w.right) k w reached.0 (same w.left) (same w.right) v ∙ ap (λ c. nat_eq v w.left || (nat_eq v w.right || c)) (same v)) reached.1,
      )

  lengths_from : (ws : List TrailPattern) (known : List ℕ) → AllByRecursion (λ (w : TrailPattern). (1 ≤ w.low) × (w.low ≤ w.high) × (w.high ≤ 16)) ws
      → AllByRecursion HasLength (parts_from test p known ws)
  lengths_from [] known h = tt
  lengths_from (w ∷ ws) known h = (record { some = h.0.0; ordered = h.0.1; few = h.0.2 }, lengths_from ws (w.left ∷ w.right ∷ known) h.1)

pub nodes_real : (g : Graph) (i : ℕ) (ns : List NodeId) → list_all (is_node g) ns ≡ true → AreNodes g (numbered i ns)
nodes_real g i [] h = tt
nodes_real g i (n ∷ ns) h = let parts = and_parts (is_node g n) (list_all (is_node g) ns) h in (parts.0, nodes_real g (i + 1) ns parts.1)

pub parts_have_length : PartsHaveLength
parts_have_length test q h = All-from_recursion HasLength (trail_parts test q) (lengths_from test q.pattern q.trails (core_nodes q) h)

pub cores_are_in_turn : CoresAreInTurn
cores_are_in_turn test k q cored =
    turns_from test q.pattern q.trails (core_nodes q) (λ v. nat_lt v k) (λ v. sym (cored.core v)) (core_reaches q cored.ends)

pub parts_have_ends : PartsHaveEnds
parts_have_ends test k q cored =
    All-from_recursion (λ (p : TrailPart). p.to < length q.pattern.names) (trail_parts test q)
    (ends_from test q.pattern q.trails (core_nodes q) (length q.pattern.names) cored.ends)
