use Rattle.std.proofs.Common.{◌≡◌, ◌<◌, ◌≤◌, ◌&&◌, not, cond, ℕ}
use Rattle.gq_plan.specs.Columns.{binds}
use Rattle.gq_plan.specs.Plans.{plan_of}
use Rattle.gq_plan.specs.Soundness.{has_number}
use Rattle.gq_plan.specs.Shapes.{groups_of}
use Rattle.gq_plan.proofs.places.VariableGroups.put_nodes.Given as goal

abbrev pub invariant-loop-at : goal.invariant-loop-at
invariant-loop-at l = record {
  taken : (v : ℕ) → v < l.at → groups_of l.self v ≡ cond (binds v (plan_of l.side) && not (has_number l.keys v)) l.group (groups_of l.fn.self v);
  kept : (v : ℕ) → l.at ≤ v → groups_of l.self v ≡ groups_of l.fn.self v;
}
