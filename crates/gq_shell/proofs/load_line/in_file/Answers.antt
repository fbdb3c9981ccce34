use Rattle.std.proofs.Common.{[], ◌∷◌, codes}
use Rattle.gq_render.proofs.Chains.{line_written}
use Rattle.gq_render.specs.Texts.{name_text}
use Rattle.gq_shell.proofs.load_line.in_file.Goals as goal

pub returns-clause-bytes : goal.returns-clause-bytes
returns-clause-bytes g c = line_written _ _ _ (codes " " ∷ name_text c.args.file.now ∷ []) (rw c.as_str.ensures.bytes at c.write_line.ensures.bytes)
