use Rattle.std.proofs.Common.{◌+◌, ◌-◌, ◌++◌, take, drop, flat_map, ap, ◌∙◌, arith}
use Rattle.gq_render.specs.Listings.{row_text}
use Rattle.gq_render.proofs.Parts.{next_part, part_rest}
use Rattle.gq_render.proofs.Sequence.{next_broke, put_then}
use Rattle.gq_render.proofs.rows.put_lines.Goals as goal

pub put_next_row-requires-clause-row : goal.put_next_row-requires-clause-row
put_next_row-requires-clause-row g c =
    let within = c.requires.lines in
    (omega (arith, within.0), omega (arith, within.2), omega (arith, within.3))

pub loop-row-preserved : goal.loop-row-preserved
loop-row-preserved g c =
    let lines = c.args.block.now.lines in
    let row = c.loop-row.row in (
      put_then _ _ _ _ _ _ _ _ _ c.loop-row.invariant.0 c.in_ok-put_next_row.ensures.bytes (next_part (row_text c.args.block.now.graph) lines c.args.first row (omega arith) (omega (arith, c.requires.lines.3))),
      c.in_ok-put_next_row.ensures.cause.kept ∙ c.loop-row.invariant.1,
      c.put_next_row.ensures.front,
    )

pub returns-in_err-put_next_row-clause-bytes : goal.returns-in_err-put_next_row-clause-bytes
returns-in_err-put_next_row-clause-bytes g c =
    let f = row_text c.args.block.now.graph in
    let lines = c.args.block.now.lines in
    let first = c.args.first in
    let row = c.loop-row.row in
    let part = take (c.args.end - first) (drop first lines) in
    let rest = flat_map f (drop (row + 1 - first) part) in
    next_broke _ _ _ _ _ _ _ _ _ _ rest _ _ _ _ c.loop-row.invariant.0 c.put_next_row.ensures.bytes c.in_err-put_next_row.was c.from_residual.ensures.1
    (ap (λ l. l ++ rest) (next_part f lines first row (omega arith) (omega (arith, c.requires.lines.3))) ∙ part_rest f lines first (row + 1 - first) (c.args.end - first) (omega arith))
