use Rattle.std.proofs.Common.{◌∙◌, ◌+◌, ◌++◌, drop, ap, arith}
use Rattle.gq_render.proofs.Sequence.{next_broke, put_then}
use Rattle.gq_reply.specs.ReplyTexts.{spent_text}
use Rattle.gq_reply.proofs.Spendings.{spent_next, spent_split}
use Rattle.gq_reply.proofs.spent.put_all.Goals as goal

pub returns-in_err-put_spent-clause-bytes : goal.returns-in_err-put_spent-clause-bytes
returns-in_err-put_spent-clause-bytes g c =
    let i = c.loop-index.index in
    let rest = spent_text (1 + (i + 1)) (drop (i + 1) c.args.spent.now) in
    next_broke _ _ _ _ _ _ _ _ _ _ rest _ _ _ _ c.loop-index.invariant.0 c.put_spent.ensures.bytes c.in_err-put_spent.was c.from_residual.ensures.1
    (ap (λ l. l ++ rest) (spent_next c.args.spent.now i _ (omega arith)) ∙ spent_split 1 c.args.spent.now (i + 1))

pub loop-index-preserved : goal.loop-index-preserved
loop-index-preserved g c = (
  put_then _ _ _ _ _ _ _ _ _ c.loop-index.invariant.0 c.in_ok-put_spent.ensures.bytes (spent_next c.args.spent.now c.loop-index.index _ (omega arith)),
  c.in_ok-put_spent.ensures.cause.kept ∙ c.loop-index.invariant.1,
)
