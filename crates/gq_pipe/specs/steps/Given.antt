-- Callers see what is bound in the order of the plan as it was given, in whatever order its steps run.
use Rattle.std.specs.Prelude.{◌≡◌, map}
use Rattle.gq_arrange.specs.Keys.{led}
use Rattle.gq_base.specs.declared.NodeId.{NodeId}
use Rattle.gq_base.specs.declared.RelId.{RelId}
use Rattle.gq_law_groups.specs.Law.{read_all}
use Rattle.gq_plan.specs.Assignments as plain
use Rattle.gq_plan.specs.Covers.{after}
use Rattle.gq_plan.specs.Known.{none}
use Rattle.gq_plan.specs.Meaning.{Partial, nothing}
use Rattle.gq_plan.specs.Plans.{Plan, steps, step_of}
use Rattle.gq_plan.specs.declared.assignment.Assignment.{Assignment}
use Rattle.gq_plan.specs.declared.typed.Typed.{Typed}
use Rattle.gq_steps.specs.Given.{given}
use Rattle.gq_steps.specs.Moves.{run_of}
use Rattle.gq_steps.specs.declared.plan_run.PlanRun.{PlanRun}

-- the rows and load numbers of an assignment
abbrev pub numbers_of : plain.Assignment → Assignment
numbers_of t = record { nodes = map (λ (n : NodeId). n.row) t.nodes; rels = map (λ (r : RelId). r.row) t.rels }

-- those of what is bound
abbrev pub rows_of : Typed → Partial → Assignment
rows_of y a = numbers_of (read_all y a)

-- what is bound, as a plan binds it
abbrev pub bound_by : Typed → Plan → Partial → Partial
bound_by y p a = given y (rows_of y a) p nothing

abbrev pub given_plan : PlanRun → Plan
given_plan k = steps (map step_of k.plan.now)

-- the steps run in the order of the plan's groups, and bind what the plan binds
pub record RunsPlan (k : PlanRun) : Type 0 where
  pub order : steps (run_of k).steps ≡ led k.typed.now (given_plan k)
  pub bound : after (given_plan k) none ≡ after (steps (run_of k).steps) none
