use Rattle.std.proofs.Common.{subst, sym}
use Rattle.std.specs.Prelude.{IfOk}
use Rattle.gq_kept.specs.Tables.{AnswersListings, StandsForSome}
use Rattle.gq_rows.proofs.Answering.{finished}
use Rattle.gq_rows.specs.steps.Inner.{table_of}
use Rattle.gq_rows.proofs.table.RowTable.finish.Goals as goal

pub lines_in-requires-clause-holds : goal.lines_in-requires-clause-holds
lines_in-requires-clause-holds c = let s = subst StandsForSome (sym c.self.view_is) c.requires in (s.1.rows, s.1.holds)

pub returns-in-Ok-clause-lines : goal.returns-in-Ok-clause-lines
returns-in-Ok-clause-lines c =
    let t = table_of c.self.inside in
    let all = finished t c.lines_in.result c.lines_in.ensures.lists in
    subst (λ x. AnswersListings x c.in-Ok.lines) c.self.view_is (subst (λ r. IfOk r (AnswersListings t)) c.in-Ok.is all)
