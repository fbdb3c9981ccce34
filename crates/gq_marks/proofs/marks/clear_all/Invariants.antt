use Rattle.std.proofs.Common.{◌≤◌}
use Rattle.gq_marks.specs.steps.{AreAhead}
use Rattle.gq_marks.proofs.marks.clear_all.Given as goal

abbrev pub invariant-nodes : goal.invariant-nodes
invariant-nodes l = record {
  most : l.place ≤ l.place-end;
  ahead : AreAhead l.sheets.items l.nodes l.place;
}
