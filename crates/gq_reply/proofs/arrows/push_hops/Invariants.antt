use Rattle.std.proofs.Common.{◌≡◌, ◌++◌, flat_map, take}
use Rattle.gq_reply.specs.Arrows.{hop_arrows}
use Rattle.gq_reply.proofs.arrows.push_hops.Given as goal

abbrev pub invariant-loop-hop : goal.invariant-loop-hop
invariant-loop-hop l = l.arrows ≡ l.fn.arrows ++ flat_map hop_arrows (take l.hop-index l.hops)
