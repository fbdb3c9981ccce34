use Rattle.std.proofs.Common.{◌≡◌, ◌<◌, ◌≤◌, cond, ℕ}
use Rattle.gq_plan.specs.Plans.{plan_of}
use Rattle.gq_plan.specs.Shapes.{groups_of}
use Rattle.gq_plan.specs.steps.Places.{binds_rel}
use Rattle.gq_plan.proofs.places.VariableGroups.put_rels.Given as goal

abbrev pub invariant-loop-at : goal.invariant-loop-at
invariant-loop-at l = record {
  taken : (v : ℕ) → v < l.at → groups_of l.self v ≡ cond (binds_rel v (plan_of l.side)) l.group (groups_of l.fn.self v);
  kept : (v : ℕ) → l.at ≤ v → groups_of l.self v ≡ groups_of l.fn.self v;
}
