use Rattle.std.proofs.Common.{arith}
use Rattle.gq_reply.proofs.Blanks.{stops_not_blank}
use Rattle.gq_reply.proofs.blank.is_blank.Goals as goal

pub returns-then-at-statement : goal.returns-then-at-statement
returns-then-at-statement c = (λ f. cc f, λ blank. absurd (stops_not_blank c.args.statement.now c.args.at c.requires.cause (omega (arith, c.if-at-statement.true)) blank))
