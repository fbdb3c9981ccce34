use Rattle.std.proofs.Common.{[], ◌∷◌, codes}
use Rattle.gq_render.proofs.Chains.{line_written}
use Rattle.gq_render.specs.Pieces.{piece_text}
use Rattle.gq_reply.proofs.error_line.write_error.Goals as goal

pub returns-clause-bytes : goal.returns-clause-bytes
returns-clause-bytes g c =
    line_written _ _ _ (codes "error: " ∷ c.args.why.now ∷ c.args.before.now ∷ piece_text c.args.about ∷ []) c.write_line.ensures.bytes
