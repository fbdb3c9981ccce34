use Rattle.std.proofs.Common.{◌++◌, refl}
use Rattle.gq_explain.specs.Plans.{optionals_text, tests_text, trails_text}
use Rattle.gq_render.proofs.Sequence.{first_broke, puts_then}
use Rattle.gq_explain.proofs.counts.put_counts.Goals as goal

pub returns-in_err-put_pieces-clause-bytes : goal.returns-in_err-put_pieces-clause-bytes
returns-in_err-put_pieces-clause-bytes g c =
    first_broke _ _ _ _ _ _ _ (tests_text c.args.bound.now ++ (trails_text c.args.bound.now c.args.rightward.now ++ optionals_text c.args.bound.now)) _ _ _ _ c.put_pieces.ensures.bytes c.in_err-put_pieces.was c.from_residual.ensures.1 (rw c.len.ensures refl)

pub returns-clause-bytes : goal.returns-clause-bytes
returns-clause-bytes g c = puts_then _ _ _ _ _ _ _ (tests_text c.args.bound.now ++ (trails_text c.args.bound.now c.args.rightward.now ++ optionals_text c.args.bound.now)) _ _ c.in_ok-put_pieces.ensures.bytes c.put_parts.ensures.bytes (rw c.len.ensures refl)
