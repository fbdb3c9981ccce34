-- The parts of an alternative: the pieces of its pattern that a plan joins to the first one, and how many assignments
-- each has by itself (this project's profile).
use Rattle.std.specs.Prelude.{◌≡◌, ℕ, nat_eq, nat_lt, ◌<◌, Bool, true, false, not, ◌&&◌, ◌||◌, IsPermutation, Option, Some, None, List, [], ◌∷◌, ◌++◌, map, filter, flat_map, length, drop, slice_get, if◌then◌else◌}
use Rattle.std.specs.List.{range_with_len, list_all}
use Rattle.gq_base.specs.Catalogs.{Tables}
use Rattle.gq_base.specs.Plain.{Graph}
use Rattle.gq_base.specs.declared.RelId.{RelId}
use Rattle.gq_expr.specs.Reading as reading
use Rattle.gq_plan.specs.Allowed.{leads}
use Rattle.gq_plan.specs.Conditions.{passes, differs, no_loop}
use Rattle.gq_plan.specs.Covers.{Fits, placed, test_bound, pair_bound, leaves_loops_out}
use Rattle.gq_plan.specs.Known.{Known, none, with_both}
use Rattle.gq_plan.specs.Meaning.{Partial, row, nodes_for, rels_for, holds}
use Rattle.gq_plan.specs.Soundness.{has_number, path_nodes}
use Rattle.gq_plan.specs.Plans.{Plan, Done, Then, Step, Join}
use Rattle.gq_plan.specs.declared.bound.NamedExpr.{NamedExpr}
use Rattle.gq_plan.specs.declared.demand.Demand.{Demand}
use Rattle.gq_plan.specs.declared.demand.Demand.TheVariants.{InTable, Joins, Passes, Differs, IsNoLoop}
use Rattle.gq_plan.specs.declared.typed.PathPart.{PathPart}
use Rattle.gq_plan.specs.declared.typed.Typed.{Typed}
use Rattle.gq_plan.specs.declared.typed.TypedRel.{TypedRel}

-- ---- the pieces of a pattern

-- a piece of a pattern: the variables in it, and those in the pieces before it
pub record Part : Type 0 where
  pub inside : Known
  pub earlier : Known

-- pieces by what they begin with: one for each first node that is in no piece before it
abbrev pub pieces : {X : Type 0} → (X → ℕ) → (X → Known) → Known → List X → List Part
pieces first known seen [] = []
pieces first known seen (x ∷ xs) =
    (if seen.nodes (first x) then [] else record { inside = known x; earlier = seen } ∷ [])
    ++ pieces first known (with_both (known x) seen) xs

-- the variables of a path
abbrev pub path_known : Typed → PathPart → Known
path_known y p = record { nodes = has_number (path_nodes y p); rels = has_number p.rels }

-- marks of node variables, of which each relationship gives both its ends one
abbrev pub marks : List TypedRel → (ℕ → ℕ) → ℕ → ℕ
marks [] mark v = mark v
marks (r ∷ rs) mark v = marks rs (λ w. if nat_eq (mark w) (mark r.target) then mark r.source else mark w) v

-- two node variables are connected where they have one mark in the end, if each begins with its own
abbrev pub connected : Typed → ℕ → ℕ → Bool
connected y v w = nat_eq (marks y.rels (λ u. u) v) (marks y.rels (λ u. u) w)

-- the connected component of a node variable
abbrev pub component : Typed → ℕ → Known
component y v = record {
  nodes = λ w. nat_lt w (length y.nodes) && connected y w v;
  rels = λ x. holds (λ r. connected y r.source v) (slice_get y.rels x);
}

-- the parts of the order of the text: each path, other than the first, whose first node is in no path before it
abbrev pub given_parts : Typed → List Part
given_parts y = drop 1 (pieces (λ p. p.first) (path_known y) none y.paths)

-- the parts of the order of weights: each connected component other than the one of the first node variable
abbrev pub greedy_parts : Typed → List Part
greedy_parts y = drop 1 (pieces (λ v. v) (component y) none (range_with_len 0 (length y.nodes)))

-- the variables of the alternative that a part has
abbrev pub nodes_inside : Typed → Part → List ℕ
nodes_inside y part = filter part.inside.nodes (range_with_len 0 (length y.nodes))

abbrev pub rels_inside : Typed → Part → List ℕ
rels_inside y part = filter part.inside.rels (range_with_len 0 (length y.rels))

-- a test counts for a part where its variables are all in it, and not all in the pieces before it
abbrev pub counts : Part → NamedExpr → Bool
counts part test = test_bound part.inside test && not (test_bound part.earlier test)

-- ---- the assignments of a part

-- a relationship leads from its source to its target, and is no loop where those are left out
abbrev pub joins_ends : Graph → reading.Assignment → Option RelId → TypedRel → Bool
joins_ends g t None r = false
joins_ends g t (Some q) r = leads g (t.nodes r.source) (t.nodes r.target) q && (not r.no_loop || no_loop t r)

-- the conditions of an alternative, read on a part alone: its relationships, its pairs, and the tests that count for it
abbrev pub meets : Graph → Typed → Part → reading.Assignment → Bool
meets g y part t =
    list_all (λ x. not (part.inside.rels x) || holds (joins_ends g t (t.rels x)) (slice_get y.rels x)) (range_with_len 0 (length y.rels))
    && (list_all (λ p. not (pair_bound part.inside p) || differs t p) y.pairs
    && list_all (λ e. not (counts part e) || passes g t e) y.tests)

-- all choices of an item for each of these variables
abbrev pub bindings : {X : Type 0} → (ℕ → List X) → List ℕ → List (List (ℕ × X))
bindings at [] = [] ∷ []
bindings at (v ∷ vs) = flat_map (λ x. map (λ bs. (v, x) ∷ bs) (bindings at vs)) (at v)

-- all choices of nodes and relationships of their tables for the variables of a part
abbrev pub part_choices : Graph → Typed → Part → List Partial
part_choices g y part =
    flat_map (λ ns. map (λ rs. record { nodes = ns; rels = rs }) (bindings (rels_for g y) (rels_inside y part)))
    (bindings (nodes_for g y) (nodes_inside y part))

-- the assignments of a part
unfoldable pub part_assignments : Graph → Typed → Part → List Partial
part_assignments g y part = filter (λ a. meets g y part (row a)) (part_choices g y part)

-- a part has variables of the alternative, and with a relationship both its ends
abbrev pub ends_inside : Part → TypedRel → Bool
ends_inside part r = part.inside.nodes r.source && part.inside.nodes r.target

pub record IsPiece (y : Typed) (part : Part) : Type 0 where
  pub nodes : (v : ℕ) → part.inside.nodes v ≡ true → v < length y.nodes
  pub rels : (x : ℕ) → part.inside.rels x ≡ true → holds (ends_inside part) (slice_get y.rels x) ≡ true

-- ---- the plan of a part

-- the demands of an alternative that a part has by itself
unfoldable pub part_demands : Typed → Part → List Demand
part_demands y part =
    map InTable (nodes_inside y part)
    ++ map Joins (rels_inside y part)
    ++ map Passes (filter (λ i. holds (counts part) (slice_get y.tests i)) (range_with_len 0 (length y.tests)))
    ++ map Differs (filter (λ p. holds (pair_bound part.inside) (slice_get y.pairs p)) (range_with_len 0 (length y.pairs)))
    ++ map IsNoLoop (filter (λ x. part.inside.rels x && holds leaves_loops_out (slice_get y.rels x)) (range_with_len 0 (length y.rels)))

-- a plan makes a part: it fits by itself, and meets each of these demands once and no others
pub record IsSide (catalog : Tables) (y : Typed) (part : Part) (side : Plan) : Type 0 where
  pub fits : Fits catalog y side
  pub once : IsPermutation (placed side) (part_demands y part)

abbrev pub own_sides : Step → List Plan
own_sides (Join side keys) = side ∷ []
own_sides s = []

-- the side plans that a plan joins, in order
unfoldable pub sides : Plan → List Plan
sides Done = []
sides (Then s p) = own_sides s ++ sides p
