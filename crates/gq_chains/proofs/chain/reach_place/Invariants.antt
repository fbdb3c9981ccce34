use Rattle.gq_steps.specs.Moves.{run_of}
use Rattle.gq_chains.proofs.Reached.{IsReached}
use Rattle.gq_chains.proofs.chain.reach_place.Given as goal

abbrev pub invariant-loop-depth : goal.invariant-loop-depth
invariant-loop-depth l = IsReached (run_of l.fn.plan_run) l.fn.group l.fn.place l.fn.row l.depth l.row
