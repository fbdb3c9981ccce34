use Rattle.std.proofs.Common.{drop}
use Rattle.gq_render.specs.Listings.{row_text}
use Rattle.gq_render.specs.steps.Blocks.{line_of}
use Rattle.gq_render.proofs.Fronts.{row_front}
use Rattle.gq_render.proofs.Sequence.{first_broke, puts_then}
use Rattle.gq_render.proofs.rows.put_behind_front.Goals as goal

pub returns-in_err-put-clause-bytes : goal.returns-in_err-put-clause-bytes
returns-in_err-put-clause-bytes g c =
    let line = line_of c.args.block.now c.args.row in
    let rest = row_text c.args.block.now.graph (drop c.args.front.now.held line) in
    first_broke _ _ _ _ _ _ _ rest _ _ _ _ c.put.ensures.bytes c.in_err-put.was c.from_residual.ensures.1
    (row_front c.args.block.now.graph line c.args.front.now c.bytes.result.now c.requires.front c.bytes.ensures)

pub returns-clause-bytes : goal.returns-clause-bytes
returns-clause-bytes g c =
    let line = line_of c.args.block.now c.args.row in
    puts_then _ _ _ _ _ _ _ _ _ _ c.in_ok-put.ensures.bytes c.put_rest.ensures.bytes
    (row_front c.args.block.now.graph line c.args.front.now c.bytes.result.now c.requires.front c.bytes.ensures)
