use Rattle.std.proofs.Common.{◌∙◌, arith}
use Rattle.std.proofs.lemmas.List.{take_rest}
use Rattle.std.proofs.lemmas.Result.{err_from_is_err_and}
use Rattle.gq_io.proofs.Moved.{Appends-kept, Appends-more, front_of}
use Rattle.gq_io.proofs.writing.write_all.Goals as goal

pub loop-at-preserved : goal.loop-at-preserved
loop-at-preserved g c =
    let step = rw take_rest at c.in_ok-count.ensures.bytes in
    (grind arith, Appends-more _ _ _ _ _ _ c.loop-at.invariant.1 step, c.in_ok-count.ensures.cause.kept ∙ c.loop-at.invariant.2)

pub returns-in_err-count-clause-bytes : goal.returns-in_err-count-clause-bytes
returns-in_err-count-clause-bytes g c =
    let p = err_from_is_err_and c.from_residual.result c.from_residual.ensures.1 in
    rw p.1 (front_of _ _ _ c.loop-at.at (Appends-kept _ _ _ _ c.loop-at.invariant.1 c.in_err-count.ensures.bytes))
