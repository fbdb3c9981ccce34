use Rattle.std.proofs.Common.{◌≡◌, ◌-◌}
use Rattle.gq_hops.specs.steps.Hops.{IsLevel, left_of}
use Rattle.gq_hops.proofs.follow.next_met.Given as goal

abbrev pub invariant-loop-met : goal.invariant-loop-met
invariant-loop-met l = record {
  level : IsLevel l.follow l.level;
  left : left_of l.follow l.fn.level ≡ left_of l.follow l.level;
}

abbrev pub decreases-loop-met : goal.decreases-loop-met
decreases-loop-met l = l.follow.tables.len - l.level.table
