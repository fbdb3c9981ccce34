use Rattle.std.proofs.Common.{◌≡◌, ◌∙◌, false, get_or, sym, ap}
use Rattle.std.specs.Prelude.{nat_lt}
use Rattle.std.specs.List.{list_any}
use Rattle.gq_plan.specs.Assignments.{same_node}
use Rattle.gq_marks.specs.Insides.{visited_in}
use Rattle.gq_marks.specs.Visiting.{Visiting}
use Rattle.gq_marks.proofs.Visits.{not_there}
use Rattle.gq_marks.proofs.visited.Visited.has.Goals as goal

pub returns-then-not-is_within-clause-met : goal.returns-then-not-is_within-clause-met
returns-then-not-is_within-clause-met c =
    let m = c.self.inside in
    let n = c.args.node in
    let off : nat_lt n.row (get_or m.sizes.items n.table 0) ≡ false = ap (λ l. nat_lt n.row (get_or l n.table 0)) (sym c.deref.ensures.value) ∙ sym c.is_within.ensures ∙ c.if-not-is_within.true in
    not_there m.sizes.items n (visited_in m) c.self.invariant.within off ∙ ap (λ (v : Visiting). list_any (same_node n) v.nodes) c.self.view_is
