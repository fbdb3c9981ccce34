use Rattle.std.proofs.Common.{◌∙◌, Ok, ap, sym}
use Rattle.gq_plan.specs.Assignments.{row_of}
use Rattle.gq_plan.specs.Rows.{assigned}
use Rattle.gq_group.specs.Chunks.{assignment_at}
use Rattle.gq_listed.proofs.Finding.{number_fits, number_means}
use Rattle.gq_listed.proofs.keys.KeyFinder.value_at.Goals as goal

pub read-requires : goal.read-requires
read-requires c =
    let f = c.args.finder.now in
    let g = c.args.graph.now in
    let here = row_of (assigned c.args.typed.now (assignment_at g c.args.typed.now c.args.chunk.now c.args.positions.now)) in
    let (e, finds) = c.requires.finder in
    number_fits g c.args.self.now.cells.sources f.source e f.way finds.finds here c.in-Number.number c.in-Number.ensures

pub returns-in-Number : goal.returns-in-Number
returns-in-Number c = λ key finds.
    let f = c.args.finder.now in
    let g = c.args.graph.now in
    let here = row_of (assigned c.args.typed.now (assignment_at g c.args.typed.now c.args.chunk.now c.args.positions.now)) in
    number_means g c.args.self.now.cells.sources f.source key f.way finds.finds here c.in-Number.number c.in-Number.ensures ∙ ap Ok (sym c.read.ensures)
