use Rattle.std.proofs.Common.{◌≡◌, drop}
use Rattle.gq_scopes.specs.PathPatterns.{with_names}
use Rattle.gq_scopes.proofs.patterns.Pattern.push_names.Given as goal

abbrev pub invariant-loop-hop : goal.invariant-loop-hop
invariant-loop-hop l = with_names (drop l.hop-index l.hops) l.self ≡ with_names l.hops l.fn.self
