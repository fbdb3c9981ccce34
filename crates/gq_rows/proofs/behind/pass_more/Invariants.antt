use Rattle.std.proofs.Common.{◌≡◌, ◌≤◌, Bool, true, length}
use Rattle.std.specs.Prelude.{IfSome}
use Rattle.gq_expr.specs.Reading as reading
use Rattle.gq_group.specs.Choices.{IsChoice}
use Rattle.gq_kept.specs.Tables.{Held}
use Rattle.gq_kept.specs.steps.Choosing.{Came, choices_left}
use Rattle.gq_rows.specs.steps.Past.{IsPast}
use Rattle.gq_rows.specs.steps.Sinks.{held_by, table_by}
use Rattle.gq_rows.proofs.behind.pass_more.Given as goal

abbrev pub invariant-choices : goal.invariant-choices
invariant-choices l = record {
  past : IfSome l.past (IsPast l.question.graph.now l.question.bound.now l.typed l.chunk (table_by l.question (held_by l.sink)));
  left : length (choices_left l.chunk.groups.now l.found l.choice) ≤ length (choices_left l.chunk.groups.now true l.initial.choice);
  chosen : l.found ≡ true → IsChoice l.chunk.groups.now l.choice;
  came : (admitted : reading.Assignment → Bool) (held : Held) → Came admitted l.question.graph.now l.typed l.chunk (table_by l.question held) (table_by l.question (held_by l.sink)) true l.initial.choice → Came admitted l.question.graph.now l.typed l.chunk (table_by l.question held) (table_by l.question (held_by l.sink)) l.found l.choice;
}

abbrev pub decreases-choices : goal.decreases-choices
decreases-choices l = length (choices_left l.chunk.groups.now l.found l.choice)
