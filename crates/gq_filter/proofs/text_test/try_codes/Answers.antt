use Rattle.std.proofs.Common.{ap, length, arith}
use Rattle.gq_filter.proofs.Codes.{known_tried}
use Rattle.gq_filter.proofs.text_test.try_codes.Goals as goal

pub marks_of-marks-requires-clause-inside : goal.marks_of-marks-requires-clause-inside
marks_of-marks-requires-clause-inside c = omega (arith, c.requires.few, c.next_end-high.ensures.end, ap length c.dict-dict.ensures.is)

pub marks_of-marks-requires-clause-few : goal.marks_of-marks-requires-clause-few
marks_of-marks-requires-clause-few c = omega (arith, c.told-low.ensures, c.next_end-high.ensures.end)

pub returns : goal.returns
returns c =
    known_tried c.args.test.now c.args.known.now c.requires c.told-low.result c.next_end-high.result c.told-low.ensures c.next_end-high.ensures.end
    c.marks_of-marks.result (rw c.dict-dict.ensures.is at c.marks_of-marks.ensures) c.tell.result c.tell.new.self c.tell.ensures
