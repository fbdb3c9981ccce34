use Rattle.std.proofs.Common.{◌≡◌, false, refl, ap, ◌∙◌, subst}
use Rattle.gq_near.specs.Rows.{RowsAhead, stands_in}
use Rattle.gq_near.specs.declared.near_set.NearSet.TheInside.{Inside}
use Rattle.gq_near.specs.steps.Marked.{may_have}
use Rattle.gq_store.specs.Neighbours.{neighbours}
use Rattle.gq_near.proofs.Marking.{lacked, of_row}
use Rattle.gq_near.proofs.near_set.NearSet.lacks.Goals as goal
use Rattle.gq_near.proofs.near_set.NearSet.lacks.Goals.{then-not-is_of+else-from-self+else-not-turn, else-not-is_of}

pub returns-clause-lacks : goal.returns-clause-lacks
returns-clause-lacks c off =
    let says : c.has.result ≡ may_have c.if-not-is_of.self-inside.turned.marked.items c.args.row = c.has.ensures ∙ ap (λ ps. may_have ps c.args.row) c.as_slice.ensures.value in
    subst (λ (s : RowsAhead). stands_in (neighbours s.graph s.table s.direction c.args.from) c.args.row ≡ false) c.self.view_is
    (elim c.if-not-is_of.branch [
      | then-not-is_of+else-from-self+else-not-turn w ↦
          lacked c.self.inside.graph.now c.self.inside.table c.self.inside.direction c.args.from c.args.row w.turn.new.self.marked.items w.list-list.result.now c.has.result w.list-list.ensures.neighbours
          (w.turn.ensures.marked w.if-not-turn.false) (says ∙ ap (λ (s : Inside). may_have s.turned.marked.items c.args.row) w.self-inside-is) off
      | else-not-is_of w ↦
          lacked c.self.inside.graph.now c.self.inside.table c.self.inside.direction c.args.from c.args.row c.self.inside.turned.marked.items _ c.has.result refl
          (of_row c.self.inside.graph.now c.self.inside.table c.self.inside.direction c.self.inside.turned.marked.items c.self.inside.turned.of c.args.from c.self.invariant.1 (c.is_of.ensures w.if-not-is_of.false))
          (says ∙ ap (λ (s : Inside). may_have s.turned.marked.items c.args.row) w.self-inside-is) off
    ])
