use Rattle.std.proofs.Common.{length}
use Rattle.gq_optional.proofs.placing.+place_nodes.Given as goal

abbrev pub decreases-place_nodes : goal.decreases-place_nodes
decreases-place_nodes l = length l.variables.now
