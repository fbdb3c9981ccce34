use Rattle.std.proofs.Common.{refl, sym, append_assoc, ◌++◌}
use Rattle.gq_render.proofs.Sequence.{first_broke, next_broke, put_then, puts_then}
use Rattle.gq_render.proofs.value.put_between.Goals as goal

pub returns-in_err-put-clause-bytes : goal.returns-in_err-put-clause-bytes
returns-in_err-put-clause-bytes g c =
    first_broke _ _ _ _ _ _ _ (c.args.word.now ++ c.args.after.now) _ _ _ _ c.put.ensures.bytes c.in_err-put.was c.from_residual.ensures.1
    (rw c.as_bytes.ensures.value (sym (append_assoc c.args.before.now c.args.word.now c.args.after.now)))

pub returns-in_err-put-2-clause-bytes : goal.returns-in_err-put-2-clause-bytes
returns-in_err-put-2-clause-bytes g c =
    next_broke _ _ _ _ _ _ _ _ _ _ c.args.after.now _ _ _ _ c.in_ok-put.ensures.bytes c.put-2.ensures.bytes c.in_err-put-2.was c.from_residual-in_err-put-2.ensures.1
    (rw (c.as_bytes.ensures.value, c.as_bytes-2.ensures.value) refl)

pub returns-clause-bytes : goal.returns-clause-bytes
returns-clause-bytes g c =
    puts_then _ _ _ _ _ _ _ _ _ _ (put_then _ _ _ _ _ _ _ _ _ c.in_ok-put.ensures.bytes c.in_ok-put-2.ensures.bytes refl) c.put-3.ensures.bytes
    (rw (c.as_bytes.ensures.value, c.as_bytes-2.ensures.value, c.as_bytes-3.ensures.value) refl)
