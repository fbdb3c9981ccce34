-- The node and the relationship that an assignment of rows and load numbers has at a variable.
use Rattle.std.proofs.Common.{◌≡◌, refl, ℕ, zero, suc, Option, Some, None, List, [], ◌∷◌, slice_get}
use Rattle.gq_plan.specs.Rows.{nodes_of_tables, rels_of_tables, as_read}
use Rattle.gq_plan.specs.steps.Rows.{node_in, rel_in}
use Rattle.gq_plan.specs.declared.assignment.Assignment.{Assignment}
use Rattle.gq_plan.specs.declared.typed.Typed.{Typed}
use Rattle.gq_plan.specs.declared.typed.TypedRel.{TypedRel}

no_node : (o : Option ℕ) → None ≡ node_in o None
no_node None = refl
no_node (Some table) = refl

no_rel : (o : Option TypedRel) → None ≡ rel_in o None
no_rel None = refl
no_rel (Some r) = refl

pub node_assigned : (tables rows : List ℕ) (v : ℕ) → slice_get (nodes_of_tables tables rows) v ≡ node_in (slice_get tables v) (slice_get rows v)
node_assigned [] rows v = refl
node_assigned (table ∷ tables) [] v = no_node (slice_get (table ∷ tables) v)
node_assigned (table ∷ tables) (row ∷ rows) zero = refl
node_assigned (table ∷ tables) (row ∷ rows) (suc v) = node_assigned tables rows v

pub rel_assigned : (rs : List TypedRel) (numbers : List ℕ) (x : ℕ) → slice_get (rels_of_tables rs numbers) x ≡ rel_in (slice_get rs x) (slice_get numbers x)
rel_assigned [] numbers x = refl
rel_assigned (r ∷ rs) [] x = no_rel (slice_get (r ∷ rs) x)
rel_assigned (r ∷ rs) (number ∷ numbers) zero = refl
rel_assigned (r ∷ rs) (number ∷ numbers) (suc x) = rel_assigned rs numbers x

-- what expressions read at a node variable and at a relationship variable
pub node_read : (y : Typed) (row : Assignment) (v : ℕ) → (as_read y row).nodes v ≡ node_in (slice_get y.nodes v) (slice_get row.nodes v)
node_read y row v = node_assigned y.nodes row.nodes v

pub rel_read : (y : Typed) (row : Assignment) (x : ℕ) → (as_read y row).rels x ≡ rel_in (slice_get y.rels x) (slice_get row.rels x)
rel_read y row x = rel_assigned y.rels row.rels x
