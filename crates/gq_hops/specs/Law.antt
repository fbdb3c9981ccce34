-- The law of breadth-first search over a graph: it meets the nodes to which relationships lead, each once.
use Rattle.std.specs.Prelude.{ℕ, ◌≤◌, Some, List}
use Rattle.gq_base.specs.Plain.{Graph}
use Rattle.gq_base.specs.declared.NodeId.{NodeId}
use Rattle.gq_base.specs.declared.RelId.{RelId}
use Rattle.gq_base.specs.declared.direction.Direction.{Direction}
use Rattle.gq_law_ends.specs.Reaching.{AreLedTo}
use Rattle.gq_hops.specs.Levels.{ends_met}

abbrev pub SpreadsAsLed : Type 0
SpreadsAsLed =
    (g : Graph) (kind : List ℕ) (way : Direction) (used : List RelId) (high : ℕ) (at : NodeId) → 1 ≤ high
    → AreLedTo g kind way used high (Some at) (ends_met g kind way used high at)
