-- The law of breadth-first search: one more relationship leads to where as many led before, and on from there.
use Rattle.std.specs.Prelude.{◌≡◌, ℕ, suc, ◌≤◌, Bool, ◌&&◌, ◌||◌, Option, Some, List}
use Rattle.std.specs.List.{list_any}
use Rattle.gq_base.specs.Plain.{Graph}
use Rattle.gq_base.specs.declared.NodeId.{NodeId}
use Rattle.gq_base.specs.declared.RelId.{RelId}
use Rattle.gq_base.specs.declared.direction.Direction.{Direction}
use Rattle.gq_plan.specs.Allowed.{at_same}
use Rattle.gq_plan.specs.Assignments.{all_rels, same_node}
use Rattle.gq_plan.specs.Meaning.{far}
use Rattle.gq_law_ends.specs.Leading.{leads_to}
use Rattle.gq_law_trails.specs.Walks.{may_follow}

-- one relationship leads from a node to another
abbrev pub steps_to : Graph → List ℕ → Direction → List RelId → Option NodeId → NodeId → Bool
steps_to g kind way used at n = list_any (λ r. may_follow g kind way at used r && at_same (far g way r) (Some n)) (all_rels g)

abbrev pub OneLeads : Type 0
OneLeads =
    (g : Graph) (kind : List ℕ) (way : Direction) (used : List RelId) (at : Option NodeId) (n : NodeId)
    → leads_to g kind way used 1 at n ≡ steps_to g kind way used at n

-- where these nodes are those to which so many relationships lead, one or more
abbrev pub OneMoreLeads : Type 0
OneMoreLeads =
    (g : Graph) (kind : List ℕ) (way : Direction) (used : List RelId) (high : ℕ) (at : Option NodeId) (ms : List NodeId) (n : NodeId)
    → 1 ≤ high → ((m : NodeId) → list_any (same_node m) ms ≡ leads_to g kind way used high at m)
    → leads_to g kind way used (suc high) at n ≡ (list_any (same_node n) ms || list_any (λ m. steps_to g kind way used (Some m) n) ms)
