use Rattle.std.proofs.Common.{subst}
use Rattle.gq_chains.specs.steps.Chains.{IsChain}
use Rattle.gq_steps.specs.Moves.{run_of}
use Rattle.gq_chains.proofs.blocks.sift_together.Goals as goal

pub sift_blocks-requires-clause-chain : goal.sift_blocks-requires-clause-chain
sift_blocks-requires-clause-chain c = subst (IsChain (run_of c.args.plan_run.now) c.args.group) c.in-Rows.is c.requires.chain
