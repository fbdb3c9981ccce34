use Rattle.std.proofs.Common.{◌≤◌, ◌-◌}
use Rattle.gq_ends.specs.steps.Adding.{HasRows}
use Rattle.gq_ends.proofs.rows.add_rows.Given as goal

abbrev pub invariant-spans : goal.invariant-spans
invariant-spans l = record {
  low : l.low ≤ l.count;
  added : HasRows l.tests l.table 0 l.low l.initial.ends.items l.ends.items;
}

abbrev pub decreases-spans : goal.decreases-spans
decreases-spans l = l.count - l.low
