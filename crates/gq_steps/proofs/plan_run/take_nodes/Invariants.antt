use Rattle.std.proofs.Common.{◌≡◌, take, length}
use Rattle.gq_steps.specs.steps.Outcomes.{with_nodes}
use Rattle.gq_steps.proofs.plan_run.take_nodes.Given as goal

abbrev pub invariant-loop-variable : goal.invariant-loop-variable
invariant-loop-variable l = record {
  items : l.variable-items ≡ l.build.nodes;
  many : length l.nodes ≡ length l.fn.nodes;
  written : l.nodes ≡ with_nodes l.build l.found (take l.variable-index l.variable-items) l.fn.nodes;
}
