use Rattle.gq_group.specs.Chunks.{assignment_at}
use Rattle.gq_plan.specs.Assignments.{row_of}
use Rattle.gq_plan.specs.Rows.{assigned}
use Rattle.gq_rows.proofs.Passing.{finds_some, led_value}
use Rattle.gq_rows.proofs.behind.first_value.Goals as goal

pub value_at-requires-clause-led : goal.value_at-requires-clause-led
value_at-requires-clause-led c = let (b, leads) = c.requires.lead in (rw c.in-Some.is at leads).led

pub value_at-requires-clause-finder : goal.value_at-requires-clause-finder
value_at-requires-clause-finder c =
    let (b, leads) = c.requires.lead in
    finds_some c.args.graph.now b c.args.typed.now c.args.chunk.now c.args.first.now.cells.sources c.in-Some.finder (rw c.in-Some.is at leads)

pub returns-in-Some : goal.returns-in-Some
returns-in-Some c = λ b leads.
    let here = row_of (assigned c.args.typed.now (assignment_at c.args.graph.now c.args.typed.now c.args.chunk.now c.args.positions.now)) in
    let l = rw c.in-Some.is at leads in
    led_value c.args.graph.now b c.args.typed.now c.args.chunk.now c.args.first.now.cells.sources here c.in-Some.finder c.value_at.result l (c.value_at.ensures l.sort.expr l.finder)
