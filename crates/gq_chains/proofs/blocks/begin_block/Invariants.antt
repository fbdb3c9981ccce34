use Rattle.std.proofs.Common.{◌+◌}
use Rattle.gq_chains.specs.declared.chain.Beginning.TheVariants as begin
use Rattle.gq_chains.specs.steps.Blocks.{IsWalked}
use Rattle.gq_chains.specs.steps.Chains.{HasBegun}
use Rattle.gq_steps.specs.Moves.{run_of}
use Rattle.gq_chains.proofs.blocks.begin_block.Given as goal

abbrev pub invariant-loop-at : goal.invariant-loop-at
invariant-loop-at l = IsWalked (λ j old told new. HasBegun (run_of l.plan_run) (begin.Rows l.node) (l.first + l.offset + j) old told new) l.row l.offset l.at l.fn.rows l.rows l.fn.marks l.marks
