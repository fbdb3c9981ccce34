use Rattle.std.proofs.Common.{true, length, subst}
use Rattle.gq_eval.specs.Asked.{Asked}
use Rattle.gq_expr.specs.Meaning.{meaning}
use Rattle.gq_filter.specs.Deciding.{IsWanted}
use Rattle.gq_filter.specs.LaneTests.{holds}
use Rattle.gq_filter.specs.steps.ReadCells.{AreFilled, lane_in}
use Rattle.gq_filter.proofs.ReadLanes.{lanes_filled}
use Rattle.gq_filter.proofs.read_test.ReadTest.told.Goals as goal

pub returns-in-Some : goal.returns-in-Some
returns-in-Some g c =
    let i = c.self.inside in
    let here = g.R.Assigned.assignment c.args.row.now in
    let cells = c.in-Some.cells.cells in
    let filled = subst (λ fs. AreFilled i.graph.now here fs (length fs) cells) c.as_slice.ensures.value c.in-Some.ensures in
    rw c.holds_at.ensures
    (subst (λ (a : Asked). IsWanted true (holds (lane_in cells) i.test) (meaning a.graph here a.expr)) c.self.view_is
    (c.self.invariant.decides i.graph.now here (lane_in cells) (lanes_filled i.graph.now here i.feeds.items cells filled)))
