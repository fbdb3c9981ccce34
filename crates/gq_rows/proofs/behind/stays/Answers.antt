use Rattle.gq_rows.proofs.Passing.{told_again}
use Rattle.gq_rows.proofs.behind.stays.Goals as goal

pub returns : goal.returns
returns c = λ y parts e told.
    let q = c.args.question.now in
    record {
      told = told_again q.graph.now q.bound.now y parts c.args.known.now c.in-Some.bar (λ v. c.covers.ensures v c.if-not-covers.false) told;
      bar = λ other here. rw c.in-Some.is at (c.first_bar.ensures other here);
    }
