use Rattle.std.proofs.Common.{length}
use Rattle.gq_pipe.specs.Serving.{Serves}
use Rattle.gq_tests.proofs.pipe.hand_out.Given as goal

abbrev pub invariant-chunks : goal.invariant-chunks
invariant-chunks g l = Serves l.pipeline l.pool

abbrev pub decreases-chunks : goal.decreases-chunks
decreases-chunks g l = length l.pipeline.keys
