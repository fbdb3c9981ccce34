-- Among the places at which the first step of a group makes something are all that its steps keep.
use Rattle.std.proofs.Common.{ℕ, ◌+◌, Bool, List, flat_map, ap}
use Rattle.gq_chains.specs.Among.{IsAmong}
use Rattle.gq_plan.specs.declared.assignment.Assignment.{Assignment}
use Rattle.gq_search.specs.Layouts.{has_one}
use Rattle.gq_sift.specs.steps.Candidates.{AreCandidates}
use Rattle.gq_steps.specs.Keeps.{made_by}
use Rattle.gq_steps.specs.Levels.{Run}
use Rattle.gq_steps.specs.declared.group_steps.GroupSteps.{GroupSteps}

-- where the first step makes nothing, the steps make nothing
pub among_candidates : (c : Run) (group : GroupSteps) (first count : ℕ) (old : Assignment) (marks : List Bool) → AreCandidates c group.first first count old marks → IsAmong c group first count old marks
among_candidates c group first count old marks can = record {
  len = can.len;
  below = can.below;
  others = λ j inside off. ap (λ ls. has_one (flat_map (made_by c (group.first + 1) group.end) ls)) (can.others j inside off);
}
