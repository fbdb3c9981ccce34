use Rattle.std.proofs.Common.{◌<◌}
use Rattle.gq_pipe.proofs.sights.sight_of.Given as goal

abbrev pub invariant-loop-later : goal.invariant-loop-later
invariant-loop-later l = l.fn.depth < l.later
