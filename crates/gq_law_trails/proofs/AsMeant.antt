-- What a trail asks of an assignment and its list, as it is meant.
use Rattle.std.proofs.Common.{◌≡◌, Bool, true, false, ◌&&◌, ◌||◌, Option, Some, None, List, length, slice_get, refl, sym, ap, ap₂, ◌∙◌}
use Rattle.std.specs.Prelude.{nat_le}
use Rattle.std.specs.List.{list_all}
use Rattle.std.proofs.Math.Bool.{and_assoc}
use Rattle.gq_base.specs.Plain.{Graph}
use Rattle.gq_base.specs.declared.NodeId.{NodeId}
use Rattle.gq_base.specs.declared.RelId.{RelId}
use Rattle.gq_base.specs.declared.direction.Direction.{Direction}
use Rattle.gq_base.specs.declared.direction.Direction.TheVariants.{Forward, Backward}
use Rattle.gq_plan.specs.Allowed.{at_same}
use Rattle.gq_plan.specs.Assignments.{Assignment, is_rel, same_node}
use Rattle.gq_plan.proofs.Products.{same_node_is}
use Rattle.gq_law_plans.proofs.Lookups.{eqb_swap}
use Rattle.gq_law_trails.specs.Trails.{fits_end, used_in}
use Rattle.gq_law_trails.specs.Walks.{are_free, chained, chained_by, end_of, is_of_type, is_walk}
use Rattle.gq_plan.specs.declared.TrailPart.{TrailPart}
use Rattle.gq_law_trails.specs.Met.{TrailMetAsMeant, begun_at, end_fits, end_met, ended_at, turned}
use Rattle.gq_law_trails.proofs.Meant.{chains_turn, walks_are}

node_swap : (m n : NodeId) → same_node m n ≡ same_node n m
node_swap m n = ap₂ ◌&&◌ (eqb_swap m.table n.table) (eqb_swap m.row n.row)

-- of two nodes that are one, either may be asked
either_asked : (ask : NodeId → Bool) (m n : NodeId) → (same_node m n && ask n) ≡ (same_node n m && ask m)
either_asked ask m n = go (same_node m n) refl
  where
    go : (b : Bool) → same_node m n ≡ b → (same_node m n && ask n) ≡ (same_node n m && ask m)
    go true e = ap₂ ◌&&◌ (node_swap m n) (ap ask (same_node_is m n e))
    go false e = ap (λ b. b && ask n) e ∙ ap (λ b. b && ask m) (sym (sym (node_swap m n) ∙ e))

ends_meant : (g : Graph) (p : TrailPart) (t : Assignment) (o s : Option NodeId) → slice_get t.nodes p.to ≡ s → end_met g p t o ≡ (at_same o s && end_fits g p s)
ends_meant g p t None s e = refl
ends_meant g p t (Some n) None e = ap (λ q. at_same q (Some n) && (p.both || fits_end g p n)) e
ends_meant g p t (Some n) (Some m) e = ap (λ q. at_same q (Some n) && (p.both || fits_end g p n)) e ∙ either_asked (λ x. p.both || fits_end g p x) m n

chain_turned : (g : Graph) (way : Direction) (from to : Option NodeId) (l : List RelId) → chained_by g way from l to ≡ chained g (begun_at way from to) (turned way l) (ended_at way from to)
chain_turned g Forward from to l = refl
chain_turned g Backward from to l = chains_turn g from to l

pub trail_meant : TrailMetAsMeant
trail_meant g patterns p t ws l =
    let from : Option NodeId = slice_get t.nodes p.from in
    let to : Option NodeId = slice_get t.nodes p.to in
    let used : List RelId = used_in patterns ws p.clause in
    let walk : Bool = is_walk g p.kind p.way p.low p.high from used l in
    ap (λ b. walk && b) (ends_meant g p t (end_of g p.way from l) to refl)
    ∙ sym (and_assoc walk (at_same (end_of g p.way from l) to) (end_fits g p to))
    ∙ ap (λ b. b && end_fits g p to)
    (walks_are g p.kind p.way p.low p.high from to used l
    ∙ ap (λ c. list_all (is_rel g) l && (((nat_le p.low (length l) && nat_le (length l) p.high) && (list_all (is_of_type g p.kind) l && c)) && are_free used l))
    (chain_turned g p.way from to l))
