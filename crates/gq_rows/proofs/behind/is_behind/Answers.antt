use Rattle.gq_group.specs.Chunks.{assignment_at}
use Rattle.gq_plan.specs.Assignments.{row_of}
use Rattle.gq_plan.specs.Rows.{assigned}
use Rattle.gq_rows.proofs.behind.is_behind.Goals as goal

pub first_value-value-requires-clause-lead : goal.first_value-value-requires-clause-lead
first_value-value-requires-clause-lead c = (c.args.question.now.bound.now, c.requires.lead)

pub returns : goal.returns
returns c = λ e.
    let q = c.args.question.now in
    let y = c.args.typed.now in
    let here = row_of (assigned y (assignment_at q.graph.now y c.args.chunk.now c.args.positions.now)) in
    c.passes_over.ensures y here e (c.first_value-value.ensures q.bound.now c.requires.lead)
