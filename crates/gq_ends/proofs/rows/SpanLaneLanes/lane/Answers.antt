use Rattle.std.proofs.Common.{◌∙◌, None, sym, ap}
use Rattle.std.specs.Prelude.{if◌then◌else◌, slice_range}
use Rattle.std.proofs.lemmas.Bool.{eq-eqb}
use Rattle.gq_column.specs.Cells.{cell_at}
use Rattle.gq_filter.proofs.Filling.{gathered_lane}
use Rattle.gq_ends.proofs.rows.SpanLaneLanes.lane.Goals as goal

pub returns-then-lane-eq0 : goal.returns-then-lane-eq0
returns-then-lane-eq0 c = λ place.
    let l = c.args.self.now in
    ap (λ b. if b then cell_at (slice_range l.column.now l.low l.high) place else None) (eq-eqb c.args.lane 0 c.if-lane-eq0.true)
    ∙ sym (gathered_lane l.column.now l.low l.high _ _ _ c.gather_span.ensures place)
