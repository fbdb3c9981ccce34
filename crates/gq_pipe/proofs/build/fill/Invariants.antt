use Rattle.std.proofs.Common.{◌≡◌, true, length}
use Rattle.gq_pipe.specs.Progress.{plan_in}
use Rattle.gq_pipe.specs.Serving.{Serves}
use Rattle.gq_pipe.proofs.Loading.{Came, Counted}
use Rattle.gq_pipe.proofs.build.fill.Given as goal

abbrev pub invariant-chunks : goal.invariant-chunks
invariant-chunks l = record {
  source : l.pipeline.source ≡ l.initial.pipeline.source;
  columns : l.pipeline.columns ≡ l.initial.pipeline.columns;
  held : l.pipeline.slots ≡ l.initial.pipeline.slots;
  serves : Serves l.pipeline l.pool;
  slots : l.pool.out ≡ l.initial.pool.out;
  usable : l.build.usable ≡ true;
  nodes : l.build.nodes ≡ l.initial.build.nodes;
  rels : l.build.rels ≡ l.initial.build.rels;
  came : Came l.typed (plan_in l.initial.pipeline.source) l.initial.build l.build l.initial.pipeline.owed l.pipeline.owed;
  counted : Counted l.initial.pipeline l.pipeline;
}

abbrev pub decreases-chunks : goal.decreases-chunks
decreases-chunks l = length l.pipeline.owed
