use Rattle.std.proofs.Common.{◌≡◌, drop}
use Rattle.gq_resolve.specs.Uses.{again_in}
use Rattle.gq_resolve.proofs.uses.again_in.Given as goal

abbrev pub invariant-loop-hop : goal.invariant-loop-hop
invariant-loop-hop l = again_in l.scope (drop l.hop-index l.hops) ≡ again_in l.scope l.hops
