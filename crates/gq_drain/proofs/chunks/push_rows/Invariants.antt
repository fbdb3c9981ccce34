use Rattle.std.proofs.Common.{◌≡◌, false, true, length}
use Rattle.std.specs.List.{AllByRecursion}
use Rattle.gq_group.specs.Choices.{IsChoice}
use Rattle.gq_group.specs.Chunks.{assignment_at}
use Rattle.gq_group.specs.Groups.{choices}
use Rattle.gq_law_plans.specs.Safe.{IsMade}
use Rattle.gq_plan.specs.Rows.{assigned}
use Rattle.gq_kept.specs.Tables.{IsSameQuery, StandsForSome, is_full_table}
use Rattle.gq_drain.specs.steps.Continued.{ended_by}
use Rattle.gq_drain.specs.steps.Taken.{Taken}
use Rattle.gq_drain.proofs.Chosen.{choices_left, outs}
use Rattle.gq_drain.proofs.chunks.push_rows.Given as goal

abbrev pub invariant-choices : goal.invariant-choices
invariant-choices t l = record {
  ready : t.C.Continues.ready l.rows;
  continuation : t.C.Continues.continuation l.rows ≡ t.C.Continues.continuation l.initial.rows;
  same : IsSameQuery l.initial.table l.table;
  room : is_full_table l.table ≡ false;
  some : StandsForSome l.table;
  stands : l.found ≡ true → IsChoice l.chunk.groups.now l.choice;
  made : AllByRecursion (λ ps. IsMade l.graph l.typed (assigned l.typed (assignment_at l.graph l.typed l.chunk ps))) (choices_left l.chunk.groups.now l.found l.choice);
  came : let out = outs (ended_by (t.C.Continues.continuation l.initial.rows).rows l.graph l.initial.table.bound l.typed) l.graph l.typed l.chunk in
      Taken (out (choices l.chunk.groups.now)) (out (choices_left l.chunk.groups.now l.found l.choice)) l.initial.table l.table;
}

abbrev pub decreases-choices : goal.decreases-choices
decreases-choices t l = length (choices_left l.chunk.groups.now l.found l.choice)
