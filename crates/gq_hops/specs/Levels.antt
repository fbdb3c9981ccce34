-- Breadth-first search over relationships of a type, as a function of lists.
use Rattle.std.specs.Prelude.{ℕ, zero, suc, ◌-◌, Bool, ◌&&◌, Option, Some, None, List, [], ◌∷◌, drop, filter, length, if◌then◌else◌}
use Rattle.std.specs.List.{list_any}
use Rattle.gq_base.specs.Plain.{Graph}
use Rattle.gq_base.specs.declared.NodeId.{NodeId}
use Rattle.gq_base.specs.declared.RelId.{RelId}
use Rattle.gq_base.specs.declared.direction.Direction.{Direction}
use Rattle.gq_law_trails.specs.Walks.{is_of_type}
use Rattle.gq_marks.specs.Visiting.{with_node}
use Rattle.gq_plan.specs.Allowed.{at_same}
use Rattle.gq_plan.specs.Assignments.{all_rels, same_rel}
use Rattle.gq_plan.specs.Meaning.{far, near}

-- a relationship is of a type, and is met at a node
abbrev pub is_met : Graph → List ℕ → Direction → Option NodeId → RelId → Bool
is_met g kind way at r = is_of_type g kind r && at_same at (near g way r)

-- those of a graph
abbrev pub met_all : Graph → List ℕ → Direction → Option NodeId → List RelId
met_all g kind way at = filter (is_met g kind way at) (all_rels g)

abbrev pub with_end : List NodeId → Option NodeId → List NodeId
with_end ns None = ns
with_end ns (Some n) = with_node ns n

-- the nodes that were met, and those to which these relationships lead
abbrev pub spread_over : Graph → Direction → List RelId → List NodeId → List RelId → List NodeId
spread_over g way used ns [] = ns
spread_over g way used ns (r ∷ rs) = spread_over g way used (if list_any (same_rel r) used then ns else with_end ns (far g way r)) rs

-- those to which the relationships at each of these nodes lead
abbrev pub spread_each : Graph → List ℕ → Direction → List RelId → List NodeId → List NodeId → List NodeId
spread_each g kind way used ns [] = ns
spread_each g kind way used ns (at ∷ ats) = spread_each g kind way used (spread_over g way used ns (met_all g kind way (Some at))) ats

-- so many levels more, where the nodes from a place on are new
abbrev pub spread_levels : Graph → List ℕ → Direction → List RelId → ℕ → ℕ → List NodeId → List NodeId
spread_levels g kind way used zero next ns = ns
spread_levels g kind way used (suc high) next ns =
    spread_levels g kind way used high (length ns) (spread_each g kind way used ns (drop next ns))

-- the nodes that are met from a node within so many levels, in their order
unfoldable pub ends_met : Graph → List ℕ → Direction → List RelId → ℕ → NodeId → List NodeId
ends_met g kind way used high at = spread_levels g kind way used (high - 1) 0 (spread_over g way used [] (met_all g kind way (Some at)))
