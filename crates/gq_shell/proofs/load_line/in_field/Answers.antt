use Rattle.std.proofs.Common.{[], ◌∷◌, codes, decimal}
use Rattle.gq_render.proofs.Chains.{line_written}
use Rattle.gq_render.specs.Texts.{name_text}
use Rattle.gq_shell.proofs.load_line.in_field.Goals as goal

pub returns-clause-bytes : goal.returns-clause-bytes
returns-clause-bytes g c = line_written _ _ _ (codes " " ∷ name_text c.args.file.now ∷ codes " record " ∷ decimal c.args.number ∷ codes " column " ∷ decimal c.args.column ∷ []) (rw c.as_str.ensures.bytes at c.write_line.ensures.bytes)
