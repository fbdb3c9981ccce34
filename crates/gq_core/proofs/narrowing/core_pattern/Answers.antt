use Rattle.std.proofs.Common.{◌≡◌, ◌∙◌, ap, subst, filter, nat_lt, take, IfOk}
use Rattle.gq_law_cuts.specs.Cuts.{core_of}
use Rattle.gq_law_reaches.specs.Core.{is_core_entry}
use Rattle.gq_plan.specs.declared.PathPart.{PathPart}
use Rattle.gq_scopes.specs.Patterns.{NodePattern, Pattern}
use Rattle.gq_core.proofs.Same.{same}
use Rattle.gq_core.proofs.narrowing.core_pattern.Goals as goal

pub returns : goal.returns
returns c =
    let k = c.args.count in
    subst (λ (q : Pattern). IfOk c.of_lists.result (λ p. p ≡ q))
    (same _ (core_of k c.args.pattern.now)
    (c.in_ok-first_names.ensures ∙ ap (take k) c.names.ensures)
    (c.in_ok-copy_all.ensures ∙ c.named.ensures)
    (c.in_ok-copy_all-2.ensures ∙ c.node_names.ensures)
    (c.in_ok-copy_all-3.ensures ∙ c.rel_names.ensures)
    c.unnamed.ensures
    (c.in_ok-nodes_below.ensures ∙ ap (filter (λ (n : NodePattern). nat_lt n.variable k)) c.nodes.ensures)
    (c.in_ok-copy_all-4.ensures ∙ c.rels.ensures)
    (c.in_ok-paths_below.ensures ∙ ap (filter (λ (x : PathPart). nat_lt x.first k)) c.paths.ensures)
    (c.in_ok-entries_below.ensures ∙ ap (filter (is_core_entry k)) c.entries.ensures))
    c.of_lists.ensures
