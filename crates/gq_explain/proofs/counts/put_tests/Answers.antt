use Rattle.std.proofs.Common.{◌∙◌, ◌+◌, length, drop, flat_map, arith, subst}
use Rattle.std.specs.List.{range_with_len}
use Rattle.gq_explain.specs.Plans.{test_at}
use Rattle.gq_io.specs.Putting.{Put}
use Rattle.gq_render.proofs.Sequence.{next_broke, put_then}
use Rattle.gq_render.proofs.Numbers.{numbers_all, numbers_next, numbers_split}
use Rattle.gq_explain.proofs.counts.put_tests.Goals as goal

pub returns-in_err-put_test_at-clause-bytes : goal.returns-in_err-put_test_at-clause-bytes
returns-in_err-put_test_at-clause-bytes g c =
    let f = test_at c.args.bound.now in
    let n = length c.args.bound.now.patterns in
    next_broke _ _ _ _ _ _ _ _ _ _ (flat_map f (drop (c.loop-at.at + 1) (range_with_len 0 n))) _ _ _ _ c.loop-at.invariant.0 c.put_test_at.ensures.bytes
    c.in_err-put_test_at.was c.from_residual.ensures.1 (numbers_split f n c.loop-at.at (omega arith))

pub loop-at-preserved : goal.loop-at-preserved
loop-at-preserved g c = (
  put_then _ _ _ _ _ _ _ _ _ c.loop-at.invariant.0 c.in_ok-put_test_at.ensures.bytes (numbers_next (test_at c.args.bound.now) (length c.args.bound.now.patterns) c.loop-at.at (omega arith)),
  c.in_ok-put_test_at.ensures.cause.kept ∙ c.loop-at.invariant.1,
)

pub returns-clause-bytes : goal.returns-clause-bytes
returns-clause-bytes g c =
    subst (λ text. Put (g.O.Sink.taken c.args.out.now) (g.O.Sink.taken c.loop-at.out) c.args.batch.now c.loop-at.batch text)
    (numbers_all (test_at c.args.bound.now) (length c.args.bound.now.patterns) c.loop-at.at (omega arith)) c.loop-at.invariant.0
