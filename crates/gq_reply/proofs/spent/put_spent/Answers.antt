use Rattle.std.proofs.Common.{[], ◌∷◌, codes, decimal}
use Rattle.gq_render.proofs.Chains.{line_put}
use Rattle.gq_reply.proofs.spent.put_spent.Goals as goal

pub returns-clause-bytes : goal.returns-clause-bytes
returns-clause-bytes g c =
    let s = c.args.spent.now in
    let texts = codes "pipeline " ∷ decimal c.args.number ∷ codes " chunks " ∷ decimal s.chunks ∷ codes " columns " ∷ decimal s.columns ∷ [] in
    line_put _ _ _ _ _ texts (rw c.columns.ensures at (rw c.chunks.ensures at c.put_line.ensures.bytes))
