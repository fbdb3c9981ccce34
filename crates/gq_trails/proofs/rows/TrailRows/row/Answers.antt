use Rattle.std.proofs.Common.{◌∙◌, sym, ap}
use Rattle.gq_plan.specs.Meaning as meaning
use Rattle.gq_trails.specs.Continued.{Continuing}
use Rattle.gq_trails.specs.declared.rows.Ways.{Ways}
use Rattle.gq_trails.specs.steps.Chained.{continuing_by}
use Rattle.gq_trails.proofs.rows.TrailRows.row.Goals as goal

pub returns-in-Reached : goal.returns-in-Reached
returns-in-Reached c =
    c.row-in-Reached.ensures
    ∙ ap (λ (w : Ways). meaning.row (continuing_by c.self.inside.once w).reached) (sym c.in-Reached.is)
    ∙ ap (λ (t : Continuing). meaning.row t.reached) c.self.view_is
