use Rattle.std.proofs.Common.{◌≡◌, take, length}
use Rattle.gq_steps.specs.steps.Outcomes.{with_rels}
use Rattle.gq_steps.proofs.plan_run.take_rels.Given as goal

abbrev pub invariant-loop-variable : goal.invariant-loop-variable
invariant-loop-variable l = record {
  items : l.variable-items ≡ l.build.rels;
  many : length l.rels ≡ length l.fn.rels;
  written : l.rels ≡ with_rels l.build l.found (take l.variable-index l.variable-items) l.fn.rels;
}
