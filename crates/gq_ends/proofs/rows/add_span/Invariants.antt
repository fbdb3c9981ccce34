use Rattle.std.proofs.Common.{◌+◌, ◌-◌, ◌≤◌}
use Rattle.gq_ends.specs.steps.Adding.{HasRows}
use Rattle.gq_ends.proofs.rows.add_span.Given as goal

abbrev pub invariant-places : goal.invariant-places
invariant-places l = record {
  most : l.from ≤ l.high - l.low;
  added : HasRows l.tests l.table l.low (l.low + l.from) l.initial.ends.items l.ends.items;
}

abbrev pub decreases-places : goal.decreases-places
decreases-places l = l.high - l.low - l.from
