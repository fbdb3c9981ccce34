use Rattle.std.proofs.Common.{◌≡◌, ◌∙◌, Some, ap, sym, refl, length}
use Rattle.std.specs.Prelude.{slice_get}
use Rattle.std.proofs.lemmas.Option.{slice_get_read}
use Rattle.gq_filter.specs.steps.RowCells.{cell_in, cell_of, lane_of, rel_lane}
use Rattle.gq_filter.proofs.row_cells.RowCellsCells.cell.Goals as goal
use Rattle.gq_filter.proofs.row_cells.RowCellsCells.cell.Goals.{In_ok-feed}

here : (c : In_ok-feed) → slice_get c.args.self.now.feeds.now c.args.lane ≡ Some c.in_ok-feed.feed.now
here c =
    let feeds = c.args.self.now.feeds.now in
    let lookup = c.in_ok-feed.ensures.lookup in
    slice_get_read feeds (length feeds) c.args.lane c.in_ok-feed.feed.now refl lookup.3.0 lookup.1

pub rel_lane-requires-clause-table : goal.rel_lane-requires-clause-table
rel_lane-requires-clause-table c = (c.args.self.now.inside c.args.lane c.in_ok-feed.feed.now c.in-Rel.variable (here (goal.at.rel_lane-requires-clause-table c).In_ok-feed) c.in-Rel.is).0

pub rel_lane-requires-clause-property : goal.rel_lane-requires-clause-property
rel_lane-requires-clause-property c = (c.args.self.now.inside c.args.lane c.in_ok-feed.feed.now c.in-Rel.variable (here (goal.at.rel_lane-requires-clause-property c).In_ok-feed) c.in-Rel.is).1

pub returns-in_ok-row-in-Node : goal.returns-in_ok-row-in-Node
returns-in_ok-row-in-Node c =
    let g = c.args.self.now.graph.now in
    let row = c.args.self.now.row.now in
    let feed = c.in_ok-feed.feed.now in
    (rw c.column.ensures.is at c.cell_at.ensures) ∙ ap (cell_in feed.property.now.column) c.in_ok-row-in-Node.ensures.value
    ∙ sym (ap (cell_of g row) (here (goal.at.returns-in_ok-row-in-Node c).In_ok-feed) ∙ ap (lane_of g row feed) c.in-Node.is)

pub returns-in_ok-number-in-Rel : goal.returns-in_ok-number-in-Rel
returns-in_ok-number-in-Rel c =
    let g = c.args.self.now.graph.now in
    let row = c.args.self.now.row.now in
    let feed = c.in_ok-feed.feed.now in
    c.rel_lane.ensures ∙ ap (rel_lane g feed.column) c.in_ok-number-in-Rel.ensures.value
    ∙ sym (ap (cell_of g row) (here (goal.at.returns-in_ok-number-in-Rel c).In_ok-feed) ∙ ap (lane_of g row feed) c.in-Rel.is)
