use Rattle.std.proofs.Common.{arith}
use Rattle.gq_chains.proofs.Walking.{spread_is}
use Rattle.gq_chains.proofs.blocks.spread.Goals as goal

pub returns : goal.returns
returns c = λ j low.
    spread_is c.args.row.now c.loop-node.rows j
    (λ v known. c.loop-node.invariant v (let past = c.loop-node-test.false in omega (arith, known, past, c.len-node-end.ensures)) j low)
