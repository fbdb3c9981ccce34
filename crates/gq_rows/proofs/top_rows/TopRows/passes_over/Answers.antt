use Rattle.gq_rows.proofs.Passing.{passed}
use Rattle.gq_rows.proofs.top_rows.TopRows.passes_over.Goals as goal

pub returns-in-Some : goal.returns-in-Some
returns-in-Some c = λ y here e has.
    let q = c.args.question.now in
    let top = c.args.self.now in
    passed q top.most y here c.in-Some.value top.rows c.requires.small c.requires.form c.requires.stands c.requires.room
    (λ sure starts. c.passes_over.ensures q.graph.now here top.most q.limit sure starts e) (rw c.in-Some.is at has)
