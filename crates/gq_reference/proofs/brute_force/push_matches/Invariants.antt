use Rattle.std.proofs.Common.{◌≡◌, ◌++◌, map, filter, take}
use Rattle.gq_alternatives.specs.Matches.{is_match}
use Rattle.gq_reference.proofs.brute_force.push_matches.Given as goal

abbrev pub invariant-loop-rels : goal.invariant-loop-rels
invariant-loop-rels l = l.found ≡ l.fn.found ++ filter (is_match l.conditions.graph.now l.conditions.pattern.now) (map (λ rs. record { nodes = l.nodes; rels = rs }) (take l.rels-index l.rel_tuples))
