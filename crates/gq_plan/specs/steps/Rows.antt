-- A node or a relationship by its table and its number.
use Rattle.std.specs.Prelude.{ℕ, Option, Some, None}
use Rattle.gq_base.specs.declared.NodeId.{NodeId}
use Rattle.gq_base.specs.declared.RelId.{RelId}
use Rattle.gq_plan.specs.declared.typed.TypedRel.{TypedRel}

-- a node by a table and a row, where both are there
abbrev pub node_in : Option ℕ → Option ℕ → Option NodeId
node_in (Some table) (Some row) = Some (record { table = table; row = row })
node_in table row = None

abbrev pub rel_in : Option TypedRel → Option ℕ → Option RelId
rel_in (Some r) (Some number) = Some (record { table = r.table; row = number })
rel_in r number = None
