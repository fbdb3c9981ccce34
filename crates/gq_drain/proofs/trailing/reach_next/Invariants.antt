use Rattle.std.proofs.Common.{◌≡◌, length}
use Rattle.gq_drain.specs.steps.Walking.{AreTrailsOf, left_of_all}
use Rattle.gq_drain.proofs.trailing.reach_next.Given as goal

abbrev pub invariant-rows : goal.invariant-rows
invariant-rows l = record {
  trails : AreTrailsOf l.prepared.graph.now l.prepared.bound.now l.trails;
  left : left_of_all l.prepared l.typed l.initial.trails.owed ≡ left_of_all l.prepared l.typed l.trails.owed;
}

abbrev pub decreases-rows : goal.decreases-rows
decreases-rows l = length l.trails.owed
