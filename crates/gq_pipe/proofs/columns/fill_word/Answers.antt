use Rattle.std.proofs.Common.{arith}
use Rattle.std.proofs.Math.Facts.{Fits-lt-pow}
use Rattle.gq_pipe.proofs.Words.{can_next, fewer, fills_more}
use Rattle.gq_pipe.proofs.columns.fill_word.Goals as goal

pub row-row-requires-clause-can : goal.row-row-requires-clause-can
row-row-requires-clause-can c =
    let test = c.loop-rest-test.true in
    (c.args.slot.now, can_next c.args.origin.now c.args.slot.now c.args.index c.args.word c.loop-rest.rest c.args.pool.now c.loop-rest.pool c.loop-rest.invariant (omega (arith, test)) (Fits-lt-pow c.loop-rest.auto.rest-fits) c.requires.can)

pub loop-rest-smaller : goal.loop-rest-smaller
loop-rest-smaller c =
    let test = c.loop-rest-test.true in
    fewer c.args.origin.now c.args.slot.now c.args.index c.args.word c.loop-rest.rest c.args.pool.now c.loop-rest.pool c.loop-rest.invariant (omega (arith, test)) (Fits-lt-pow c.loop-rest.auto.rest-fits) c.requires.can

pub loop-rest-preserved : goal.loop-rest-preserved
loop-rest-preserved c =
    let test = c.loop-rest-test.true in
    fills_more c.args.origin.now c.args.slot.now c.args.index c.args.word c.loop-rest.rest c.args.pool.now c.loop-rest.pool c.loop-rest.invariant (omega (arith, test)) (Fits-lt-pow c.loop-rest.auto.rest-fits) c.requires.can
    c.put_row.new.pool c.row-row.result c.row-row.ensures c.put_row.ensures.put c.put_row.ensures.other_cells c.put_row.ensures.other_slots c.put_row.ensures.same_out c.put_row.ensures.still_out
