use Rattle.std.proofs.Common.{◌≡◌, false, length}
use Rattle.std.specs.List.{AllByRecursion}
use Rattle.gq_law_plans.specs.Safe.{IsMade}
use Rattle.gq_pipe.specs.Serving.{Serves}
use Rattle.gq_kept.specs.Tables.{IsSameQuery, StandsForSome, is_full_table}
use Rattle.gq_drain.specs.Becoming.{owed_by}
use Rattle.gq_drain.specs.steps.Pushed.{Counted, Pushed}
use Rattle.gq_drain.specs.Taking.{IsRunOf}
use Rattle.gq_drain.proofs.draining.drain.Given as goal

abbrev pub invariant-chunks : goal.invariant-chunks
invariant-chunks t l = record {
  ready : t.P.TakesChunks.ready l.taker l.initial.table.graph l.initial.table.bound l.initial.table.alternative;
  becomes : t.P.TakesChunks.becomes l.taker ≡ t.P.TakesChunks.becomes l.initial.taker;
  made : AllByRecursion (IsMade l.initial.table.graph l.initial.pipeline.source.typed) (owed_by l.initial.pipeline.source.typed l.pipeline);
  run : IsRunOf l.initial.table.graph l.table l.pipeline;
  same : IsSameQuery l.initial.table l.table;
  source : l.pipeline.source ≡ l.initial.pipeline.source;
  columns : l.pipeline.columns ≡ l.initial.pipeline.columns;
  held : l.pipeline.slots ≡ l.initial.pipeline.slots;
  serves : Serves l.pipeline l.pool;
  slots : l.pool.out ≡ l.initial.pool.out;
  room : is_full_table l.table ≡ false;
  some : StandsForSome l.table;
  came : Pushed (t.P.TakesChunks.becomes l.initial.taker) l.initial.table.graph l.initial.table l.table l.initial.pipeline l.pipeline;
  counted : Counted l.initial.table l.table l.initial.pipeline l.pipeline;
}

abbrev pub decreases-chunks : goal.decreases-chunks
decreases-chunks t l = length l.pipeline.owed
