use Rattle.std.proofs.Common.{◌≡◌, length}
use Rattle.gq_pipe.specs.Serving.{Serves}
use Rattle.gq_exists.proofs.Filling.{Filled}
use Rattle.gq_exists.specs.steps.Running.{Counted}
use Rattle.gq_exists.proofs.key_set.fill.Given as goal

abbrev pub invariant-chunks : goal.invariant-chunks
invariant-chunks l = record {
  source : l.pipeline.source ≡ l.initial.pipeline.source;
  columns : l.pipeline.columns ≡ l.initial.pipeline.columns;
  held : l.pipeline.slots ≡ l.initial.pipeline.slots;
  serves : Serves l.pipeline l.pool;
  slots : l.pool.out ≡ l.initial.pool.out;
  fresh : l.gathering.width ≡ 0 → l.pipeline.chunks ≡ 0;
  counted : Counted l.initial.pipeline l.pipeline;
  filled : Filled l.typed l.initial.pipeline l.pipeline l.initial.gathering l.gathering;
}

abbrev pub decreases-chunks : goal.decreases-chunks
decreases-chunks l = length l.pipeline.owed
