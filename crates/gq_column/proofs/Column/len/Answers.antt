use Rattle.std.proofs.Common.{ap, length, sym, ◌∙◌}
use Rattle.gq_column.proofs.Ranked.{length-cells_of}
use Rattle.gq_column.proofs.Column.len.Goals as goal

pub returns : goal.returns
returns c = c.len.ensures ∙ sym (length-cells_of c.self.inside.present c.self.inside.kept.items) ∙ ap length c.self.view_is
