use Rattle.std.proofs.Common.{◌∙◌, take, arith}
use Rattle.gq_io.proofs.Counts.{Rose-since}
use Rattle.gq_session.proofs.Going.{came-broke, came-ended, came-kept, came-over}
use Rattle.gq_session.proofs.run.take_piece.Goals as goal
use Rattle.gq_session.proofs.run.take_piece.Goals.{in-Kept, in-Ended+in-Ok}

pub returns-in_default-clause-taken : goal.returns-in_default-clause-taken
returns-in_default-clause-taken g c =
    let fed = rw c.loop-byte.auto.statement at c.in-Ended.ensures.feeds in
    record {
      taken = (
        came-broke _ _ _ _ _ _ _ _ c.loop-byte.byte-index _ _ _ _ (take c.in-Ended.count c.feed.new.statement) c.loop-byte-test.true c.loop-byte.invariant.came fed.1 c.in_default.ensures.bytes,
        Rose-since _ _ _ c.loop-byte.invariant.still c.in_default.ensures.cause.failed,
      );
      later = omega (arith, c.loop-byte.invariant.still, c.in_default.ensures.cause.later);
      still = tt;
    }

pub returns-in-TooLong-clause-taken : goal.returns-in-TooLong-clause-taken
returns-in-TooLong-clause-taken g c =
    let fed = rw c.loop-byte.auto.statement at c.in-TooLong.ensures.feeds in
    record {
      taken = came-over _ _ _ _ _ _ _ _ c.loop-byte.byte-index _ _ _ c.loop-byte-test.true c.loop-byte.invariant.came fed.0 fed.1;
      later = omega (arith, c.loop-byte.invariant.still);
      still = c.loop-byte.invariant.still;
    }

pub loop-byte-preserved : goal.loop-byte-preserved
loop-byte-preserved g c =
    elim c.match-feed.branch [
      | in-Kept w ↦
          let fed = rw c.loop-byte.auto.statement at w.in-Kept.ensures.feeds in
          rw (w.out-is, w.worst-is, w.workspace-is) (record {
            fits = c.feed.ensures.fits;
            came = came-kept _ _ _ _ _ _ _ _ _ c.loop-byte.byte-index _ _ _ c.loop-byte-test.true c.loop-byte.invariant.came fed.0 fed.1;
            ready = c.loop-byte.invariant.ready;
            still = c.loop-byte.invariant.still;
          })
      | in-Ended+in-Ok w ↦
          let fed = rw c.loop-byte.auto.statement at w.in-Ended.ensures.feeds in
          rw (w.out-is, w.worst-is, w.workspace-is, w.worse-worst.ensures) (record {
            fits = c.feed.ensures.fits;
            came = came-ended _ _ _ _ _ _ _ _ _ _ c.loop-byte.byte-index _ _ _ _ _ (take w.in-Ended.count c.feed.new.statement) c.loop-byte-test.true c.loop-byte.invariant.came fed.0 fed.1 w.in-Ok.ensures.bytes;
            ready = w.in-Ok.ensures.ready;
            still = w.in-Ok.ensures.cause.kept ∙ c.loop-byte.invariant.still;
          })
    ]
