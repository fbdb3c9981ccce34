use Rattle.std.proofs.Common.{◌≡◌, false, length}
use Rattle.std.specs.Prelude.{IfSome}
use Rattle.gq_kept.specs.Tables.{StandsForSome, is_full_table}
use Rattle.gq_kept.specs.steps.Choosing.{Came, choices_left}
use Rattle.gq_rows.specs.steps.Past.{IsPast}
use Rattle.gq_rows.specs.steps.Sinks.{IsSink, held_by, table_by}
use Rattle.gq_rows.proofs.choices.push_each.Given as goal

abbrev pub invariant-choices : goal.invariant-choices
invariant-choices t l = record {
  sink : IsSink l.question.graph.now l.question.bound.now l.sink;
  room : is_full_table (table_by l.question (held_by l.sink)) ≡ false;
  past : IfSome l.past (IsPast l.question.graph.now l.question.bound.now l.typed l.chunk (table_by l.question (held_by l.sink)));
  some : StandsForSome (table_by l.question (held_by l.sink));
  came : Came (t.A.Admits.admitted l.admits) l.question.graph.now l.typed l.chunk (table_by l.question (held_by l.initial.sink)) (table_by l.question (held_by l.sink)) l.found l.choice;
}

abbrev pub decreases-choices : goal.decreases-choices
decreases-choices t l = length (choices_left l.chunk.groups.now l.found l.choice)
