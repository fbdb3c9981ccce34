use Rattle.gq_rows.proofs.behind.begin.Goals as goal

pub returns : goal.returns
returns c = λ y leads.
    let l = rw c.in-Some.is at leads in
    record {
      told = record { sure = l.sure; late = l.late; sort = l.sort; first = l.first; behind = λ ps selected out. absurd (c.in-Some-window.ensures ps selected out) };
      bar = λ other here. rw c.in-Some-first_bar.is at (c.first_bar.ensures other here);
    }
