use Rattle.std.proofs.Common.{◌≡◌, false, length, map}
use Rattle.gq_plan.specs.Marked.{ending}
use Rattle.gq_kept.specs.Tables.{IsSameQuery, StandsForSome, is_full_table}
use Rattle.gq_drain.specs.steps.Taken.{Taken}
use Rattle.gq_drain.proofs.continues.push_owed.Given as goal

abbrev pub invariant-rows : goal.invariant-rows
invariant-rows t l = record {
  ready : t.C.Continues.ready l.rows;
  continuation : t.C.Continues.continuation l.rows ≡ t.C.Continues.continuation l.initial.rows;
  same : IsSameQuery l.initial.table l.table;
  room : is_full_table l.table ≡ false;
  some : StandsForSome l.table;
  came : let out = map (ending l.initial.table.graph l.initial.table.bound) in
      Taken (out (t.C.Continues.owed l.initial.rows)) (out (t.C.Continues.owed l.rows)) l.initial.table l.table;
}

abbrev pub decreases-rows : goal.decreases-rows
decreases-rows t l = length (t.C.Continues.owed l.rows)
