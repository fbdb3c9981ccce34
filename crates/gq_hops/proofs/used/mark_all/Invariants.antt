use Rattle.std.proofs.Common.{◌≡◌, ◌≤◌, length, take}
use Rattle.gq_hops.specs.steps.Marks.{AreMarked}
use Rattle.gq_hops.proofs.used.mark_all.Given as goal

abbrev pub invariant-loop-place : goal.invariant-loop-place
invariant-loop-place l = record {
  many : length l.marks ≡ length l.fn.marks;
  most : l.place ≤ l.place-end;
  marked : AreMarked l.marks (take l.place l.rels);
}
