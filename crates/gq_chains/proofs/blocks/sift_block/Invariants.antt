use Rattle.std.proofs.Common.{◌+◌}
use Rattle.gq_steps.specs.Moves.{run_of}
use Rattle.gq_chains.proofs.Standing.{IsStanding}
use Rattle.gq_chains.proofs.blocks.sift_block.Given as goal

abbrev pub invariant-loop-depth : goal.invariant-loop-depth
invariant-loop-depth l = IsStanding (run_of l.plan_run) l.fn.group (l.first + l.offset) l.offset l.row l.depth l.rows l.fn.marks l.marks
