use Rattle.std.proofs.Common.{◌≡◌, ◌≤◌, length}
use Rattle.gq_plan.specs.Meaning.{Partial}
use Rattle.gq_trails.specs.steps.Reached.{AreEnds, AreSameEnds, IsSeenBefore, before_end, left_from}
use Rattle.gq_trails.proofs.reached.Ends.find_next.Given as goal

abbrev pub invariant-ends : goal.invariant-ends
invariant-ends l = record {
  ends : AreEnds l.self;
  same : AreSameEnds l.initial.self l.self;
  before : before_end l.initial.self.part.now l.self.row ≡ before_end l.initial.self.part.now l.initial.self.row;
  owed : (a : Partial) → IsSeenBefore l.initial.self.part.now l.initial.self.row a → left_from l.initial.self a ≡ left_from l.self a;
  fewer : length l.self.reacher.owed ≤ length l.initial.self.reacher.owed;
}

abbrev pub decreases-ends : goal.decreases-ends
decreases-ends l = length l.self.reacher.owed
