-- Which assignments lie in a typed alternative: its tables, its directions, and the self-loops that it leaves out.
use Rattle.std.specs.Prelude.{ℕ, nat_eq, Bool, true, false, not, ◌&&◌, ◌||◌, Option, Some, None, List, [], ◌∷◌, slice_get}
use Rattle.gq_base.specs.Plain.{Graph}
use Rattle.gq_base.specs.declared.NodeId.{NodeId}
use Rattle.gq_base.specs.declared.RelId.{RelId}
use Rattle.gq_plan.specs.Assignments.{Assignment, same_node, source, target}
use Rattle.gq_plan.specs.declared.typed.Typed.{Typed}
use Rattle.gq_plan.specs.declared.typed.TypedRel.{TypedRel}

-- two nodes are there, and are one
abbrev pub at_same : Option NodeId → Option NodeId → Bool
at_same None n = false
at_same (Some m) None = false
at_same (Some m) (Some n) = same_node m n

-- a relationship leads from one node to another
abbrev pub leads : Graph → Option NodeId → Option NodeId → RelId → Bool
leads g from to r = at_same from (source g r) && at_same to (target g r)

-- the nodes are of these tables, one by one
abbrev pub in_tables : List ℕ → List NodeId → Bool
in_tables [] [] = true
in_tables [] (n ∷ ns) = false
in_tables (k ∷ ks) [] = false
in_tables (k ∷ ks) (n ∷ ns) = nat_eq n.table k && in_tables ks ns

-- a relationship is of its table, leads from its source to its target, and is no self-loop where those are left out
abbrev pub rel_lies : Graph → Assignment → TypedRel → RelId → Bool
rel_lies g t y r =
    nat_eq r.table y.table
    && (leads g (slice_get t.nodes y.source) (slice_get t.nodes y.target) r && (not y.no_loop || not (at_same (slice_get t.nodes y.source) (slice_get t.nodes y.target))))

abbrev pub rels_lie : Graph → Assignment → List TypedRel → List RelId → Bool
rels_lie g t [] [] = true
rels_lie g t [] (r ∷ rs) = false
rels_lie g t (y ∷ ys) [] = false
rels_lie g t (y ∷ ys) (r ∷ rs) = rel_lies g t y r && rels_lie g t ys rs

-- an assignment lies in an alternative
abbrev pub lies_in : Graph → Typed → Assignment → Bool
lies_in g y t = in_tables y.nodes t.nodes && rels_lie g t y.rels t.rels
