use Rattle.std.proofs.Common.{length}
use Rattle.gq_optional.proofs.placing.+place_rels.Given as goal

abbrev pub decreases-place_rels : goal.decreases-place_rels
decreases-place_rels l = length l.variables.now
