use Rattle.std.proofs.Common.{◌++◌, flat_map, length, refl, sym, append_assoc}
use Rattle.gq_render.specs.Listings.{column_names, count_text, header_text, row_text}
use Rattle.gq_render.proofs.Sequence.{first_broke, next_broke, put_then, puts_then}
use Rattle.gq_render.proofs.listing.put_listing.Goals as goal

pub returns-in_err-put_header-clause-bytes : goal.returns-in_err-put_header-clause-bytes
returns-in_err-put_header-clause-bytes g c =
    let rows = flat_map (row_text c.args.graph.now) c.args.listing.now.lines in
    let end = count_text (length c.args.listing.now.lines) in
    first_broke _ _ _ _ _ _ _ (rows ++ end) _ _ _ _ c.put_header.ensures.bytes c.in_err-put_header.was c.from_residual.ensures.1
    (rw c.as_slice.ensures (sym (append_assoc (header_text (column_names c.args.bound.now)) rows end)))

pub returns-in_err-put_rows-clause-bytes : goal.returns-in_err-put_rows-clause-bytes
returns-in_err-put_rows-clause-bytes g c =
    next_broke _ _ _ _ _ _ _ _ _ _ (count_text (length c.args.listing.now.lines)) _ _ _ _ c.in_ok-put_header.ensures.bytes c.put_rows.ensures.bytes c.in_err-put_rows.was c.from_residual-in_err-put_rows.ensures.1
    (rw c.as_slice.ensures refl)

pub returns-clause-bytes : goal.returns-clause-bytes
returns-clause-bytes g c =
    puts_then _ _ _ _ _ _ _ _ _ _ (put_then _ _ _ _ _ _ _ _ _ c.in_ok-put_header.ensures.bytes c.in_ok-put_rows.ensures.bytes refl) c.put_row_count.ensures.bytes
    (rw (c.as_slice.ensures, c.len.ensures) refl)
