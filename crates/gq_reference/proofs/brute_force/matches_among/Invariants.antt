use Rattle.std.proofs.Common.{◌≡◌, flat_map, map, filter, take}
use Rattle.gq_alternatives.specs.Matches.{is_match}
use Rattle.gq_reference.proofs.brute_force.matches_among.Given as goal

abbrev pub invariant-loop-nodes : goal.invariant-loop-nodes
invariant-loop-nodes l = l.found ≡ flat_map (λ ns. filter (is_match l.conditions.graph.now l.conditions.pattern.now) (map (λ rs. record { nodes = ns; rels = rs }) l.rel_tuples)) (take l.nodes-index l.node_tuples)
