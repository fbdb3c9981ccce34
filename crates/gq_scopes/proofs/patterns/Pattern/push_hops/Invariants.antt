use Rattle.std.proofs.Common.{◌≡◌, drop}
use Rattle.gq_scopes.specs.Patterns.{with_hops}
use Rattle.gq_scopes.proofs.patterns.Pattern.push_hops.Given as goal

abbrev pub invariant-loop-hop : goal.invariant-loop-hop
invariant-loop-hop l = with_hops l.clause l.left (drop l.hop-index l.hops) l.self ≡ with_hops l.clause l.first l.hops l.fn.self
