use Rattle.std.proofs.Common.{◌∙◌, ℕ, List, codes, ◌+◌, drop, flat_map, arith, subst}
use Rattle.std.specs.List.{range_with_len}
use Rattle.gq_io.specs.Putting.{Put}
use Rattle.gq_render.proofs.Sequence.{next_broke, put_then}
use Rattle.gq_render.proofs.Numbers.{numbers_all, numbers_next, numbers_split}
use Rattle.gq_render.proofs.pieces.put_indent.Goals as goal

abbrev spaces : ℕ → List ℕ
spaces _ = codes "  "

pub returns-in_err-put-clause-bytes : goal.returns-in_err-put-clause-bytes
returns-in_err-put-clause-bytes g c =
    next_broke _ _ _ _ _ _ _ _ _ _ (flat_map spaces (drop (c.loop-at._at + 1) (range_with_len 0 c.args.level))) _ _ _ _ c.loop-at.invariant.0 c.put.ensures.bytes
    c.in_err-put.was c.from_residual.ensures.1 (numbers_split spaces c.args.level c.loop-at._at (omega arith))

pub loop-at-preserved : goal.loop-at-preserved
loop-at-preserved g c = (
  put_then _ _ _ _ _ _ _ _ _ c.loop-at.invariant.0 c.in_ok-put.ensures.bytes (numbers_next spaces c.args.level c.loop-at._at (omega arith)),
  c.in_ok-put.ensures.cause.kept ∙ c.loop-at.invariant.1,
)

pub returns-clause-bytes : goal.returns-clause-bytes
returns-clause-bytes g c =
    subst (λ text. Put (g.O.Sink.taken c.args.out.now) (g.O.Sink.taken c.loop-at.out) c.args.batch.now c.loop-at.batch text)
    (numbers_all spaces c.args.level c.loop-at._at (omega arith)) c.loop-at.invariant.0
