use Rattle.std.proofs.Common.{refl}
use Rattle.gq_render.proofs.Sequence.{first_broke, puts_then}
use Rattle.gq_render.proofs.rows.put_rest.Goals as goal

pub returns-in_err-put_values-clause-bytes : goal.returns-in_err-put_values-clause-bytes
returns-in_err-put_values-clause-bytes g c = first_broke _ _ _ _ _ _ _ _ _ _ _ _ c.put_values.ensures.bytes c.in_err-put_values.was c.from_residual.ensures.1 refl

pub returns-clause-bytes : goal.returns-clause-bytes
returns-clause-bytes g c = puts_then _ _ _ _ _ _ _ _ _ _ c.in_ok-put_values.ensures.bytes c.put.ensures.bytes refl
