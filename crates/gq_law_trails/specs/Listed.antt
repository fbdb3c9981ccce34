-- The law that each walk is listed once.
use Rattle.std.specs.Prelude.{◌≡◌, ℕ, Option, List}
use Rattle.gq_base.specs.Plain.{Graph}
use Rattle.gq_base.specs.declared.NodeId.{NodeId}
use Rattle.gq_base.specs.declared.RelId.{RelId}
use Rattle.gq_base.specs.declared.direction.Direction.{Direction}
use Rattle.gq_plan.specs.Counts.{hits, bit}
use Rattle.std.specs.Cmp.Lexicographic.{pointwise}
use Rattle.gq_plan.specs.Assignments.{same_rel}
use Rattle.gq_law_trails.specs.Walks.{is_walk, walks}

-- a list that is a walk stands once among the walks, and another list nowhere
abbrev pub WalksListedOnce : Type 0
WalksListedOnce =
    (g : Graph) (kind : List ℕ) (way : Direction) (low high : ℕ) (at : Option NodeId) (used l : List RelId)
    → hits (pointwise same_rel l) (walks g kind way low high at used) ≡ bit (is_walk g kind way low high at used l)
