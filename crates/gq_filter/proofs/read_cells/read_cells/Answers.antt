use Rattle.std.proofs.Common.{◌∙◌, ◌<◌, length, refl, arith}
use Rattle.std.proofs.lemmas.List.{length-set}
use Rattle.std.proofs.lemmas.Option.{slice_get_read}
use Rattle.gq_filter.proofs.ReadLanes.{one_filled}
use Rattle.gq_filter.proofs.read_cells.read_cells.Goals as goal

pub loop-lane-preserved : goal.loop-lane-preserved
loop-lane-preserved g c =
    let feeds = c.args.feeds.now in
    let lane = c.loop-lane.lane in
    let cells = c.loop-lane.cells in
    let feed = c.index-feeds-lane.result in
    let here = g.R.Assigned.assignment c.args.row.now in
    let inside : lane < length cells = omega (arith, c.loop-lane-test.true, c.requires.few, c.loop-lane.invariant.whole) in
    record {
      whole = length-set cells lane c.in-Some.cell ∙ c.loop-lane.invariant.whole;
      filled = one_filled c.args.graph.now here feeds cells lane feed c.in-Some.cell inside
          (slice_get_read feeds (length feeds) lane feed refl c.loop-lane-test.true c.index-feeds-lane.is) c.in-Some.ensures c.loop-lane.invariant.filled;
    }
