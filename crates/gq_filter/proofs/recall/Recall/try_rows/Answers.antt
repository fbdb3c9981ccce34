use Rattle.gq_filter.proofs.Recalled.{tells_tried}
use Rattle.gq_filter.proofs.recall.Recall.try_rows.Goals as goal

pub returns : goal.returns
returns c =
    tells_tried c.args.feeds.now c.args.test.now c.args.self.now.passed c.requires.tells c.told-low.result c.args.high c.told-low.ensures c.requires.high
    c.first-marks.result c.keep_lanes.new.marks c.first-marks.ensures.below c.keep_lanes.ensures c.tell.result c.tell.new.self c.tell.ensures
