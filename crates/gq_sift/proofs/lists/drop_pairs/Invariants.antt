use Rattle.gq_bits.specs.Places.{is_marked}
use Rattle.gq_steps.specs.Moves.{run_of}
use Rattle.gq_sift.specs.steps.Numbers.{by_numbers}
use Rattle.gq_sift.specs.Tested.{AreKept}
use Rattle.gq_sift.proofs.lists.drop_pairs.Given as goal

abbrev pub invariant-loop-depth : goal.invariant-loop-depth
invariant-loop-depth l = AreKept (is_marked l.fn.marks) (by_numbers (run_of l.plan_run) l.follow l.first l.row) l.fn.group.first l.depth l.marks
