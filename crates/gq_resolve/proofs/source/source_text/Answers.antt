use Rattle.std.proofs.Common.{◌∙◌, sym, ap}
use Rattle.std.specs.Option.{option_copied}
use Rattle.gq_base.specs.Words.{text_of}
use Rattle.gq_resolve.proofs.SourceLemmas.{never_none}
use Rattle.gq_resolve.proofs.source.source_text.Goals as goal

pub returns-in-None : goal.returns-in-None
returns-in-None c =
    never_none c.new-in-None.result c.args.text.now c.args.span (ap option_copied (sym c.in-None.is) ∙ c.read_text.ensures ∙ ap text_of c.part.ensures)
