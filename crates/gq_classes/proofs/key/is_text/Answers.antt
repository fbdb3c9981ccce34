use Rattle.std.proofs.Common.{◌∙◌, ap, sym}
use Rattle.std.specs.Option.{option_copied}
use Rattle.gq_classes.proofs.Growing.{text_there}
use Rattle.gq_classes.proofs.key.is_text.Goals as goal

pub returns-in-Some : goal.returns-in-Some
returns-in-Some c = λ e. text_there c.args.texts.now.keys _ c.args.text c.in-Some.other.now (sym c.get_index.ensures.key ∙ ap option_copied c.in-Some.is) (sym c.eq.ensures ∙ e)
