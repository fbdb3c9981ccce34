use Rattle.gq_drain.specs.steps.Copied.{Copies}
use Rattle.std.proofs.Common.{◌≡◌}
use Rattle.gq_drain.proofs.copied.copy_rels.Given as goal

abbrev pub invariant-variables : goal.invariant-variables
invariant-variables g l = record {
  rels : Copies (g.R.Assigned.assignment l.row).rels l.variable l.initial.wide.rels l.wide.rels;
  nodes : l.wide.nodes ≡ l.initial.wide.nodes;
}
