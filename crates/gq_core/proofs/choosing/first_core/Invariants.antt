use Rattle.std.proofs.Common.{◌≡◌, take, flat_map}
use Rattle.gq_law_reaches.specs.Core.{joined_nodes}
use Rattle.gq_core.proofs.choosing.first_core.Given as goal

abbrev pub invariant-loop-piece : goal.invariant-loop-piece
invariant-loop-piece l = l.nodes ≡ flat_map (joined_nodes l.trailed.pattern) (take l.piece-index l.trailed.pattern.paths)
