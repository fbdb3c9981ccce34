use Rattle.std.proofs.Common.{◌≡◌, nat_lt}
use Rattle.gq_steps.specs.Moves.{run_of}
use Rattle.gq_sift.specs.Tested.{AreKept, by_rows}
use Rattle.gq_sift.proofs.lists.test_list.Given as goal

abbrev pub invariant-loop-depth : goal.invariant-loop-depth
invariant-loop-depth l =
    AreKept (λ j. nat_lt j l.count) (by_rows (run_of l.fn.plan_run) l.follow l.first l.fn.row) l.fn.group.first l.depth l.marks × (l.row ≡ l.fn.row) × (l.plan_run ≡ l.fn.plan_run)
