use Rattle.std.proofs.Common.{Ok, subst, sym}
use Rattle.std.specs.Prelude.{IfSome}
use Rattle.gq_kept.specs.Tables.{Pushes, outcome_numbered}
use Rattle.gq_kept.specs.declared.refusal.More.TheVariants.{Go}
use Rattle.gq_rows.specs.steps.Keyed.{IsPastBar}
use Rattle.gq_rows.specs.steps.Sinks.{held_by, table_by}
use Rattle.gq_rows.proofs.sink.Sink.first_bar.Goals as goal

pub returns-in-Top : goal.returns-in-Top
returns-in-Top c = λ y here.
    let q = c.args.question.now in
    subst (λ s. IfSome c.first_bar.result (λ bar. IsPastBar q.graph.now q.bound.now y here bar → Pushes (outcome_numbered q.graph.now q.bound.now y.late here) (table_by q (held_by s)) (table_by q (held_by s)) (Ok Go)))
    (sym c.in-Top.is) (c.first_bar.ensures y here)
