use Rattle.std.proofs.Common.{arith}
use Rattle.gq_filter.proofs.Searching.{below_last}
use Rattle.gq_filter.proofs.found.code_at.Goals as goal

pub loop-code-init : goal.loop-code-init
loop-code-init c = (omega arith, below_last c.args.dict.now c.args.from c.args.high c.args.place c.requires.ordered c.requires.begun c.requires.within, c.requires.begun)
