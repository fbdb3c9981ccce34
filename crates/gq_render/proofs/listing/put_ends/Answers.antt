use Rattle.std.proofs.Common.{length, refl}
use Rattle.gq_render.specs.Listings.{count_text}
use Rattle.gq_render.proofs.Sequence.{first_broke, puts_then}
use Rattle.gq_render.proofs.listing.put_ends.Goals as goal

pub returns-in_err-put_end_rows-clause-bytes : goal.returns-in_err-put_end_rows-clause-bytes
returns-in_err-put_end_rows-clause-bytes g c =
    first_broke _ _ _ _ _ _ _ (count_text (length c.args.listing.now.lines)) _ _ _ _ c.put_end_rows.ensures.bytes c.in_err-put_end_rows.was c.from_residual.ensures.1 refl

pub returns-clause-bytes : goal.returns-clause-bytes
returns-clause-bytes g c = puts_then _ _ _ _ _ _ _ _ _ _ c.in_ok-put_end_rows.ensures.bytes c.put_row_count.ensures.bytes (rw c.len.ensures refl)
