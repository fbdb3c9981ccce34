-- What is bound: which variables, and which assignments have all that is bound.
use Rattle.std.specs.Prelude.{ℕ, nat_eq, Bool, false, ◌&&◌, ◌||◌, Option, Some, None, List, [], ◌∷◌, slice_get}
use Rattle.std.specs.List.{list_all}
use Rattle.gq_base.specs.declared.NodeId.{NodeId}
use Rattle.gq_base.specs.declared.RelId.{RelId}
use Rattle.gq_plan.specs.Allowed.{at_same}
use Rattle.gq_plan.specs.Assignments.{Assignment, same_rel}
use Rattle.gq_plan.specs.Meaning.{Partial}

-- a variable is bound
abbrev pub bound : {X : Type 0} → List (ℕ × X) → ℕ → Bool
bound [] v = false
bound (b ∷ bs) v = nat_eq v b.0 || bound bs v

-- a relationship is there, and is this one
abbrev pub is_rel_at : Option RelId → RelId → Bool
is_rel_at None r = false
is_rel_at (Some q) r = same_rel q r

-- an assignment has the nodes and the relationships that are bound
abbrev pub nodes_in : Assignment → List (ℕ × NodeId) → Bool
nodes_in t bs = list_all (λ b. at_same (slice_get t.nodes b.0) (Some b.1)) bs

abbrev pub rels_in : Assignment → List (ℕ × RelId) → Bool
rels_in t bs = list_all (λ b. is_rel_at (slice_get t.rels b.0) b.1) bs

-- an assignment has all that is bound
abbrev pub extends : Partial → Assignment → Bool
extends a t = nodes_in t a.nodes && rels_in t a.rels
