use Rattle.std.proofs.lemmas.List.Elements.{recursion_from_All}
use Rattle.gq_execute.proofs.Listing.{all_covered, clauses_light, clauses_refused, clauses_spent, of_plans}
use Rattle.gq_execute.proofs.clauses.list_clauses.Goals as goal

pub make-requires-clause-covers : goal.make-requires-clause-covers
make-requires-clause-covers c = rw c.as_slice-plans.ensures (all_covered c.args.graph.now c.args.settings.now.order c.args.parts.now c.in_ok-plans.plans c.in_ok-plans.ensures)

pub returns-in-Ok-clause-listed : goal.returns-in-Ok-clause-listed
returns-in-Ok-clause-listed c =
    of_plans c.args.graph.now c.args.settings.now.order c.args.parts.now c.in_ok-plans.plans _ c.in_ok-plans.ensures (rw c.as_slice-plans.ensures at c.in-Ok.ensures.lists)

pub returns-in-Ok-clause-light : goal.returns-in-Ok-clause-light
returns-in-Ok-clause-light c =
    let catalog = c.args.graph.now.catalog in
    clauses_light c.args.graph.now c.args.settings.now.order c.args.settings.now.rows c.stands_valid.ensures c.args.shape.nodes c.args.shape.rels c.args.parts.now c.in_ok-plans.plans
    (recursion_from_All _ c.args.parts.now c.requires.placed) c.in_ok-plans.ensures (rw c.as_slice-plans.ensures at c.in-Ok.ensures.few)

pub returns-in-Ok-clause-spent : goal.returns-in-Ok-clause-spent
returns-in-Ok-clause-spent c =
    clauses_spent c.args.graph.now c.args.settings.now.order c.args.parts.now c.in_ok-plans.plans c.in-Ok.optionals.spent c.in_ok-plans.ensures (rw c.as_slice-plans.ensures at c.in-Ok.ensures.spent)

pub returns-clause-refused : goal.returns-clause-refused
returns-clause-refused c =
    rw c.from.ensures
    (clauses_refused c.args.graph.now c.args.settings.now.order c.args.settings.now.rows c.stands_valid.ensures c.args.shape.nodes c.args.shape.rels c.args.parts.now c.in_ok-plans.plans
    (recursion_from_All _ c.args.parts.now c.requires.placed) c.in_ok-plans.ensures c.in-Err.refusal (rw c.as_slice-plans.ensures at c.in-Err.ensures.refused))
