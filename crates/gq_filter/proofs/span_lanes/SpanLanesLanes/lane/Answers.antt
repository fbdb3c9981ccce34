use Rattle.std.proofs.Common.{◌∙◌, Some, None, cond, sym, ap}
use Rattle.gq_bits.specs.Places.{is_marked}
use Rattle.gq_lanes.specs.Tests.{cell}
use Rattle.gq_filter.specs.steps.SpanLanes.{span_cell}
use Rattle.gq_filter.proofs.Filling.{gathered_lane}
use Rattle.gq_filter.proofs.span_lanes.SpanLanesLanes.lane.Goals as goal
use Rattle.gq_filter.proofs.span_lanes.SpanLanesLanes.lane.Goals.{in-None, in-Some}

pub returns : goal.returns
returns c = λ place.
    let l = c.args.self.now in
    elim c.match-feed_at.branch [
      | in-None w ↦ ap (λ o. span_cell l.low l.high o place) (sym w.in-None.ensures)
          ∙ sym (ap (λ b. cond b (Some (cell c.match-feed_at.cells place)) None) (ap (λ m. is_marked m place) w.known-is ∙ c.none-known.ensures.blank place))
      | in-Some w ↦ ap (λ o. span_cell l.low l.high o place) (sym w.in-Some.ensures)
          ∙ sym (rw (w.cells-is, w.known-is) (gathered_lane w.in-Some.feed.property.now.column l.low l.high _ _ _ (rw w.column.ensures.is at w.gather_span.ensures) place))
    ]
