use Rattle.std.proofs.Common.{◌∙◌, ap, sym}
use Rattle.std.specs.Option.{option_copied}
use Rattle.gq_classes.proofs.Growing.{told_again}
use Rattle.gq_classes.proofs.level.Level.is_last.Goals as goal

pub returns-in-Some : goal.returns-in-Some
returns-in-Some c = λ e. told_again _ _ _ _ _ c.in-Some.key.now (sym c.get_index.ensures.key ∙ ap option_copied c.in-Some.is) (c.is.ensures.front e) (c.is.ensures.value e)
