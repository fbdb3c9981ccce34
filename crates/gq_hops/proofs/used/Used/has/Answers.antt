use Rattle.std.proofs.Common.{◌≡◌, ◌∙◌, false, take, sym, ap}
use Rattle.std.specs.List.{list_any}
use Rattle.gq_plan.specs.Assignments.{same_rel}
use Rattle.gq_hops.specs.steps.Marks.{is_marked}
use Rattle.gq_hops.proofs.Marking.{none_marked}
use Rattle.gq_hops.proofs.used.Used.has.Goals as goal

pub returns-else-mark_of : goal.returns-else-mark_of
returns-else-mark_of c =
    let u = c.self.inside in
    let none : is_marked u.marks.items c.args.rel ≡ false = ap (λ marks. is_marked marks c.args.rel) (sym c.deref.ensures.value) ∙ sym c.mark_of.ensures ∙ c.if-mark_of.false in
    c.if-mark_of.false ∙ sym (none_marked u.marks.items c.args.rel (take u.count u.rels.items) c.self.invariant.3 none) ∙ ap (list_any (same_rel c.args.rel)) c.self.view_is
