use Rattle.std.proofs.Common.{◌≡◌, drop}
use Rattle.gq_resolve.specs.Uses.{conflict_in_hops}
use Rattle.gq_resolve.proofs.uses.conflict_in_hops.Given as goal

abbrev pub invariant-loop-hop : goal.invariant-loop-hop
invariant-loop-hop l = conflict_in_hops l.scope (drop l.hop-index l.hops) ≡ conflict_in_hops l.scope l.hops
