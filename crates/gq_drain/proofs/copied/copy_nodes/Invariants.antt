use Rattle.gq_drain.specs.steps.Copied.{Copies}
use Rattle.std.proofs.Common.{◌≡◌}
use Rattle.gq_drain.proofs.copied.copy_nodes.Given as goal

abbrev pub invariant-variables : goal.invariant-variables
invariant-variables g l = record {
  nodes : Copies (g.R.Assigned.assignment l.row).nodes l.variable l.initial.wide.nodes l.wide.nodes;
  rels : l.wide.rels ≡ l.initial.wide.rels;
}
