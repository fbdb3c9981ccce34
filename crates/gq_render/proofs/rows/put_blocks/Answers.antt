use Rattle.std.proofs.Common.{◌≡◌, ◌+◌, ◌-◌, ◌≤◌, ◌++◌, [], drop, flat_map, ◌∙◌, arith, rules}
use Rattle.std.specs.Prelude.{slice_index_or}
use Rattle.gq_render.specs.Listings.{row_text}
use Rattle.gq_render.proofs.Fronts.{front_none}
use Rattle.gq_render.proofs.Parts.{parts, parts_rest}
use Rattle.gq_render.proofs.Sequence.{next_broke, put_then}
use Rattle.gq_render.proofs.rows.put_blocks.Goals as goal

pub loop-first-init : goal.loop-first-init
loop-first-init g c =
    (search rules, omega arith, front_none c.args.graph.now (slice_index_or c.args.listing.now.lines 0 []) c.args.front.now c.requires.none c.requires.empty, omega arith)

pub loop-first-preserved : goal.loop-first-preserved
loop-first-preserved g c =
    let lines = c.args.listing.now.lines in
    let first = c.loop-first.first in
    let end = first + c.min.result in (
      put_then _ _ _ _ _ _ _ _ _ c.loop-first.invariant.0 c.in_ok-put_read_lines.ensures.bytes (parts (row_text c.args.graph.now) lines first end (omega arith)),
      c.in_ok-put_read_lines.ensures.cause.kept ∙ c.loop-first.invariant.1,
      c.in_ok-put_read_lines.ensures.front,
      omega (arith, c.min.ensures, c.len-len.ensures),
    )

pub returns-in_err-put_read_lines-clause-bytes : goal.returns-in_err-put_read_lines-clause-bytes
returns-in_err-put_read_lines-clause-bytes g c =
    let lines = c.args.listing.now.lines in
    let first = c.loop-first.first in
    let end = first + c.min.result in
    let rest = flat_map (row_text c.args.graph.now) (drop end lines) in
    next_broke _ _ _ _ _ _ _ _ _ _ rest _ _ _ _ c.loop-first.invariant.0 c.put_read_lines.ensures.bytes c.in_err-put_read_lines.was c.from_residual.ensures.1
    (parts_rest (row_text c.args.graph.now) lines first end (omega arith))
