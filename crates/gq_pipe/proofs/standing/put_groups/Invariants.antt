use Rattle.std.proofs.Common.{◌≡◌, true, length}
use Rattle.gq_search.specs.Running.{prefix}
use Rattle.gq_pipe.specs.steps.Chunks.{AreStanding, StoodAt}
use Rattle.gq_steps.specs.Moves.{run_of}
use Rattle.gq_pipe.proofs.standing.put_groups.Given as goal

abbrev pub invariant-loop-depth : goal.invariant-loop-depth
invariant-loop-depth l =
    (length l.groups.items ≡ length l.initial.groups.items)
    × AreStanding (run_of l.lists.plan_run) l.lists.groups.items l.lists.row l.walker.cursors.items l.walker.marks.items l.groups.items l.depth
    × (l.same ≡ true → l.stood ≡ true)
    × (l.same ≡ true → l.groups.items ≡ l.initial.groups.items)
    × ((w : StoodAt (run_of l.lists.plan_run) l.lists.groups.items l.initial.groups.items) → l.same ≡ true → prefix w.cursors l.depth ≡ prefix l.walker.cursors.items l.depth)
