use Rattle.std.proofs.Common.{◌∙◌, arith}
use Rattle.gq_filter.proofs.text_test.PartTest.passes_code.Goals as goal

pub returns-then-code-told : goal.returns-then-code-told
returns-then-code-told c = c.has.ensures ∙ c.requires.known.tells c.args.code (omega (arith, c.if-code-told.true, c.told-told.ensures))
