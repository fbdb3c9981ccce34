use Rattle.std.proofs.Common.{[], ◌∷◌, codes, decimal}
use Rattle.gq_render.proofs.Chains.{line_written}
use Rattle.gq_shell.proofs.load_line.on_line.Goals as goal

pub returns-clause-bytes : goal.returns-clause-bytes
returns-clause-bytes g c = line_written _ _ _ (codes " line " ∷ decimal c.args.number ∷ []) c.write_line.ensures.bytes
