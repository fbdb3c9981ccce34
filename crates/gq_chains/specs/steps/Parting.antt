-- Whether the rows at the ends of two relationships are the same ones.
use Rattle.std.specs.Prelude.{◌<◌, ◌==◌, ◌||◌, not, Bool, length, slice_index}
use Rattle.gq_plan.specs.declared.assignment.Assignment.{Assignment}
use Rattle.gq_chains.specs.declared.block_steps.Ends.{Ends}

-- an end of the one is another row than that of the other
abbrev pub ends_apart : Assignment → Ends → Bool
ends_apart row e = not (slice_index row.nodes e.one == slice_index row.nodes e.other) || not (slice_index row.nodes e.first == slice_index row.nodes e.second)

-- the node variables have rows
pub record AreInside (row : Assignment) (e : Ends) : Type 0 where
  pub one : e.one < length row.nodes
  pub other : e.other < length row.nodes
  pub first : e.first < length row.nodes
  pub second : e.second < length row.nodes
