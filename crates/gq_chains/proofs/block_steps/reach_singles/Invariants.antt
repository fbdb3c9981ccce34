use Rattle.gq_chains.specs.steps.Blocks.{IsWalked}
use Rattle.gq_steps.specs.Reaching.{Reaches}
use Rattle.gq_chains.proofs.block_steps.reach_singles.Given as goal

abbrev pub invariant-loop-at : goal.invariant-loop-at
invariant-loop-at l = IsWalked (λ j old told new. Reaches l.plan_run.graph.now l.plan_run.typed.now l.follow 0 old told new) l.row l.offset l.at l.fn.rows l.rows l.fn.marks l.marks
