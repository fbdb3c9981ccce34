-- Rows of a node or nothing for each node variable, and a relationship or nothing for each relationship variable, as expressions
-- read them.
use Rattle.std.specs.Prelude.{ℕ, List, slice_get}
use Rattle.std.specs.declared.option.Option.{Option}
use Rattle.std.specs.declared.option.Option.TheVariants.{Some, None}
use Rattle.gq_base.specs.declared.NodeId.{NodeId}
use Rattle.gq_base.specs.declared.RelId.{RelId}
use Rattle.gq_expr.specs.Reading as reading

-- what the variables have, in their order
pub record Wide : Type 0 where
  pub nodes : List (Option NodeId)
  pub rels : List (Option RelId)

abbrev pub held : {X : Type 0} → Option (Option X) → Option X
held None = None
held (Some o) = o

abbrev pub item_at : {X : Type 0} → List (Option X) → ℕ → Option X
item_at xs v = held (slice_get xs v)

abbrev pub read : Wide → reading.Assignment
read w = record { nodes = item_at w.nodes; rels = item_at w.rels }
