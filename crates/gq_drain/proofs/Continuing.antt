-- The rows by which trails continue an assignment, as they are walked from a row of all variables of a query.
use Rattle.std.proofs.Common.{◌≡◌, ◌∙◌, ℕ, zero, suc, ◌<◌, Bool, true, ◌&&◌, nat_lt, Option, Some, List, [], ◌∷◌, length, map, slice_get, refl, sym, ap, ap₂, subst}
use Rattle.std.specs.List.{AllByRecursion, list_all}
use Rattle.std.proofs.lemmas.List.Elements.{recursion_from_All}
use Rattle.gq_base.specs.Plain.{Graph}
use Rattle.gq_base.specs.declared.NodeId.{NodeId}
use Rattle.gq_base.specs.declared.RelId.{RelId}
use Rattle.gq_expr.specs.Reading as reading
use Rattle.gq_law_cores.proofs.Starting.{begin_so, nodes_real, placed_so}
use Rattle.gq_law_cores.proofs.Walked.{look_first}
use Rattle.gq_law_cores.specs.Walking.{IsCoreRow}
use Rattle.gq_law_plans.specs.Bindings.{bound}
use Rattle.gq_law_plans.specs.Safe.{IsMade}
use Rattle.gq_law_reaches.proofs.Filled.{numbers_bound}
use Rattle.gq_law_reaches.specs.Core.{numbered}
use Rattle.gq_law_trails.specs.Trails.{after_trails}
use Rattle.gq_plan.specs.Assignments.{Assignment, is_node, row_of}
use Rattle.gq_plan.specs.Meaning.{Partial, row}
use Rattle.gq_plan.specs.declared.Bound.{Bound}
use Rattle.gq_plan.specs.declared.TrailPart.{TrailPart}
use Rattle.gq_plan.specs.declared.Typed.{Typed}
use Rattle.gq_trails.specs.Continued.{rows_continued, rows_from, walked_count}
use Rattle.gq_trails.specs.Trekking.{AreInTurn, AreNodes, CanTrek, patterns_from, placed_from}
use Rattle.gq_outer.specs.Rows.{Wide, item_at, read}
use Rattle.gq_drain.specs.Becoming.{rows_by, wide_of}
use Rattle.gq_drain.specs.Prepared.{CanWalk}
use Rattle.gq_drain.specs.steps.Continuing.{continued_by}

-- ---- rows that have what an assignment has

items_are : {X : Type 0} (xs : List X) (v : ℕ) → item_at (map Some xs) v ≡ slice_get xs v
items_are [] v = refl
items_are (x ∷ xs) zero = refl
items_are (x ∷ xs) (suc v) = items_are xs v

pub own_row : (t : Assignment) → IsCoreRow t (wide_of t)
own_row t = record { nodes = items_are t.nodes; rels = items_are t.rels }

pub core_row : (t : Assignment) (r : Wide) → read r ≡ row_of t → IsCoreRow t r
core_row t r same = record {
  nodes = λ v. ap (λ (a : reading.Assignment). a.nodes v) same;
  rels = λ x. ap (λ (a : reading.Assignment). a.rels x) same;
}

-- trails continue them alike
pub same_rows : (g : Graph) (b : Bound) (y : Typed) (t : Assignment) (r : Wide) → IsCoreRow t r
    → map row (rows_continued b.distinct g b.trails y.rels r) ≡ continued_by g b y t
unfolding rows_continued
same_rows g b y t r is =
    ap₂ (λ (get : ℕ → Option RelId) (a : Partial). map row (rows_from (walked_count b.distinct b.trails) g (patterns_from 0 y.rels get) b.trails a))
    (λ i x. (is.rels x ∙ sym (items_are t.rels x)) i) (begin_so t r is ∙ sym (begin_so t (wide_of t) (own_row t)))

-- without trails an assignment has its own row alone
pub own_alone : (g : Graph) (y : Typed) (t : Assignment) → rows_by g [] y t ≡ row_of t ∷ []
unfolding after_trails
own_alone g y t =
    ap (λ (a : Partial). row a ∷ []) (begin_so t (wide_of t) (own_row t))
    ∙ (λ i. record { nodes = λ v. look_first t.nodes v i; rels = λ x. look_first t.rels x i } ∷ [])

-- ---- where trails start

all_true : {X : Type 0} (p : X → Bool) (xs : List X) → AllByRecursion (λ x. p x ≡ true) xs → list_all p xs ≡ true
all_true p [] h = refl
all_true p (x ∷ xs) h = ap₂ ◌&&◌ h.0 (all_true p xs h.1)

-- they can be walked from what plans make
pub can_trek : (g : Graph) (b : Bound) (y : Typed) (t : Assignment) (r : Wide) → CanWalk b y → IsMade g y t → IsCoreRow t r → length r.nodes ≡ length b.node_names
    → CanTrek g b.trails r
can_trek g b y t r walks made is many =
    let placed : placed_from 0 r.nodes ≡ numbered 0 t.nodes = placed_so 0 r.nodes t.nodes is.nodes in
    record {
      ends = subst (λ n. AllByRecursion (λ (p : TrailPart). p.to < n) b.trails) (sym many) (recursion_from_All (λ (p : TrailPart). p.to < length b.node_names) b.trails walks.ends);
      turns =
          subst (AreInTurn b.trails) (λ i v. (ap (nat_lt v) (sym made.node_count) ∙ sym (numbers_bound t.nodes v) ∙ sym (ap (λ bs. bound bs v) placed)) i) walks.turns;
      nodes = subst (AreNodes g) (sym placed) (nodes_real g 0 t.nodes (all_true (is_node g) t.nodes (recursion_from_All (λ (n : NodeId). is_node g n ≡ true) t.nodes made.nodes)));
    }
