use Rattle.std.proofs.Common.{◌≡◌, ◌∙◌, ap, subst, length, IfOk}
use Rattle.gq_plan.specs.Assignments.{all_nodes, all_rels, tuples}
use Rattle.gq_reference.proofs.Products.{matches_found}
use Rattle.gq_reference.proofs.brute_force.matches.Goals as goal

pub returns : goal.returns
returns c =
    let nodes : c.as_slice.result.now ≡ tuples (length c.args.pattern.now.names) (all_nodes c.args.graph.now) =
    c.as_slice.ensures ∙ c.in_ok-node_tuples.ensures ∙ ap (λ names. tuples (length names) (all_nodes c.args.graph.now)) c.names.ensures in
    let rels : c.as_slice-2.result.now ≡ tuples (length c.args.pattern.now.rels) (all_rels c.args.graph.now) =
    c.as_slice-2.ensures ∙ c.in_ok-rel_tuples.ensures ∙ ap (λ rels. tuples (length rels) (all_rels c.args.graph.now)) c.rels.ensures in
    subst (λ found. IfOk c.matches_among.result (λ ms. ms ≡ found))
    (matches_found c.args.graph.now _ c.args.pattern.now _ _ _ c.in_ok-conditions.ensures.graph c.in_ok-conditions.ensures.pattern nodes rels)
    c.matches_among.ensures
