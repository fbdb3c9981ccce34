use Rattle.std.proofs.Common.{refl}
use Rattle.gq_render.proofs.Sequence.{first_broke, puts_then}
use Rattle.gq_render.proofs.rows.put_next_value.Goals as goal

pub returns-in_err-put_tab-clause-bytes : goal.returns-in_err-put_tab-clause-bytes
returns-in_err-put_tab-clause-bytes g c = first_broke _ _ _ _ _ _ _ _ _ _ _ _ c.put_tab.ensures.bytes c.in_err-put_tab.was c.from_residual.ensures.1 refl

pub returns-clause-bytes : goal.returns-clause-bytes
returns-clause-bytes g c = puts_then _ _ _ _ _ _ _ _ _ _ c.in_ok-put_tab.ensures.bytes c.put_at.ensures.bytes refl
