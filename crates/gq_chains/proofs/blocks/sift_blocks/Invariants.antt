use Rattle.std.proofs.Common.{◌*◌}
use Rattle.gq_steps.specs.Moves.{run_of}
use Rattle.gq_chains.proofs.Sifting.{IsSifting}
use Rattle.gq_chains.proofs.blocks.sift_blocks.Given as goal

abbrev pub invariant-loop-block : goal.invariant-loop-block
invariant-loop-block l = IsSifting (run_of l.plan_run) l.group l.first l.count l.row (64 * l.block) l.row l.marks
