use Rattle.std.proofs.Common.{◌∙◌, map, ap}
use Rattle.gq_cells.specs.Numbers.{Kept}
use Rattle.gq_cells.specs.steps.Inner.{cell_value}
use Rattle.gq_cells.proofs.Staying.{stays}
use Rattle.gq_cells.proofs.cells.Cells.add.Goals as goal

pub returns-clause-values : goal.returns-clause-values
returns-clause-values c =
    ap (λ ss. map (cell_value ss) c.self.inside.cells.items) c.in_ok-push.ensures.items
    ∙ stays c.self.inside.sources.items _ c.self.inside.cells.items c.self.invariant
    ∙ ap (λ (k : Kept). k.values) c.self.view_is
