use Rattle.std.proofs.Common.{sym}
use Rattle.gq_chains.proofs.blocks.step_block.Goals as goal

pub reach_block-requires-clause-can : goal.reach_block-requires-clause-can
reach_block-requires-clause-can c = λ j low on. c.requires.can c.in-Some.follow (sym c.in-Some.ensures) j low on
