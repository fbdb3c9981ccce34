use Rattle.std.proofs.Common.{◌≤◌, ◌+◌, take, ap, sym, ◌∙◌, arith}
use Rattle.gq_render.specs.steps.Blocks.{line_of}
use Rattle.std.proofs.lemmas.List.{take-take}
use Rattle.gq_render.proofs.front.shared.Goals as goal

pub loop-column-init : goal.loop-column-init
loop-column-init c =
    let line = line_of c.args.block.now c.args.row in
    let next = line_of c.args.block.now (c.args.row + 1) in
    let few = c.min-column.result in
    let count = c.staying.result in
    let le : few ≤ count = omega (arith, c.min-column.ensures) in
    sym (take-take few count line le) ∙ ap (take few) c.staying.ensures ∙ take-take few count next le
