use Rattle.std.proofs.Common.{[], ◌∷◌, codes, decimal}
use Rattle.gq_render.proofs.Chains.{line_written}
use Rattle.gq_shell.proofs.showing.write_label.Goals as goal

pub returns-clause-bytes : goal.returns-clause-bytes
returns-clause-bytes g c = line_written _ _ _ (codes "Q" ∷ decimal c.args.number ∷ []) c.write_line.ensures.bytes
