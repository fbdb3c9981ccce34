use Rattle.std.proofs.Common.{◌+◌, arith}
use Rattle.gq_render.specs.steps.Blocks.{line_of}
use Rattle.gq_render.proofs.Fronts.{front_cut, front_next, front_same, front_starts}
use Rattle.gq_render.proofs.rows.put_next_row.Goals as goal

pub cut-requires-clause-starts : goal.cut-requires-clause-starts
cut-requires-clause-starts g c =
    front_starts c.args.block.now.graph (line_of c.args.block.now c.args.row) c.fill.new.self c.fill.ensures

pub returns-clause-front : goal.returns-clause-front
returns-clause-front g c =
    let graph = c.args.block.now.graph in
    let line = line_of c.args.block.now c.args.row in
    let next = line_of c.args.block.now (c.args.row + 1) in
    let count = c.found_shared-count.result in
    let cut = front_cut graph line count c.fill.new.self c.cut.new.self c.fill.ensures c.cut.ensures in
    front_same graph next c.cut.new.self c.note.new.self
    (front_next graph line next count c.cut.new.self cut (omega (arith, c.cut.ensures.held)) c.found_shared-count.ensures)
    c.note.ensures.held c.note.ensures.text c.note.ensures.starts
