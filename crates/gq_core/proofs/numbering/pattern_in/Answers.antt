use Rattle.std.proofs.Common.{◌≡◌, ◌∙◌, ap, subst, map, None, [], IfOk}
use Rattle.gq_law_cuts.specs.Cuts.{listed_in, pattern_in, variable_in}
use Rattle.gq_scopes.specs.Renumbering.{placed_in}
use Rattle.gq_plan.specs.declared.PathPart.{PathPart}
use Rattle.gq_scopes.specs.Patterns.{MapEntry, NamedVariable, NodePattern, Pattern, RelPattern}
use Rattle.gq_core.proofs.Same.{same}
use Rattle.gq_core.proofs.numbering.pattern_in.Goals as goal

pub returns : goal.returns
returns c =
    let order = c.args.order.now in
    subst (λ (q : Pattern). IfOk c.of_lists.result (λ p. p ≡ q))
    (same _ (pattern_in order c.args.pattern.now)
    (c.in_ok-names_in.ensures ∙ ap (λ l. listed_in None l order) c.names.ensures)
    (c.in_ok-named_in.ensures ∙ ap (map (λ (n : NamedVariable). record n { variable = variable_in order n.variable })) c.named.ensures)
    (c.in_ok-texts_in.ensures ∙ ap (λ l. listed_in [] l order) c.node_names.ensures)
    (c.in_ok-copy_all.ensures ∙ c.rel_names.ensures)
    c.unnamed.ensures
    (c.in_ok-nodes_in.ensures ∙ ap (map (λ (n : NodePattern). record n { variable = placed_in order n.variable })) c.nodes.ensures)
    (c.in_ok-rels_in.ensures ∙ ap (map (λ (r : RelPattern). record r { left = placed_in order r.left; right = placed_in order r.right })) c.rels.ensures)
    (c.in_ok-paths_in.ensures ∙ ap (map (λ (x : PathPart). record x { first = placed_in order x.first })) c.paths.ensures)
    (c.in_ok-entries_in.ensures ∙ ap (map (λ (e : MapEntry). record e { variable = variable_in order e.variable })) c.entries.ensures))
    c.of_lists.ensures
