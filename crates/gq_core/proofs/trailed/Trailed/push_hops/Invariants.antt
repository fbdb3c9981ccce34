use Rattle.std.proofs.Common.{◌≡◌, [], drop}
use Rattle.gq_law_cuts.specs.Cuts.{with_hops}
use Rattle.gq_core.proofs.trailed.Trailed.push_hops.Given as goal

abbrev pub invariant-loop-hop : goal.invariant-loop-hop
invariant-loop-hop l = with_hops l.clause l.piece l.left (drop l.hop-index l.hops) l.self ≡ with_hops l.clause (record { first = l.first; rels = [] }) l.first l.hops l.fn.self
