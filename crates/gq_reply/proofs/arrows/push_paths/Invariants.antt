use Rattle.std.proofs.Common.{◌≡◌, ◌++◌, flat_map, take}
use Rattle.gq_reply.specs.Arrows.{path_arrows}
use Rattle.gq_reply.proofs.arrows.push_paths.Given as goal

abbrev pub invariant-loop-path : goal.invariant-loop-path
invariant-loop-path l = l.arrows ≡ l.fn.arrows ++ flat_map path_arrows (take l.path-index l.paths)
