use Rattle.std.proofs.Common.{◌≡◌, ◌+◌, ◌-◌, ◌++◌, ◌∙◌, min, length, take, sym, ap, subst, arith}
use Rattle.gq_bits.specs.declared.TheConstants.{VECTOR}
use Rattle.gq_row_sets.specs.Rows.{RowsTold, next_end}
use Rattle.gq_row_sets.specs.steps.Pieces.{AreTold, first_rows}
use Rattle.gq_row_sets.proofs.Pieces.{end_is, length-first_rows, still_told, told_more}
use Rattle.gq_row_sets.proofs.row_set.RowSet.tell.Goals as goal

pub invariant_of-self : goal.invariant_of-self
invariant_of-self c =
    let i = c.self.inside in
    let next = end_is i.rows i.told i.pieces.items c.self.invariant c.next_end-end.result (c.next_end-end.ensures.end ∙ sym (ap next_end c.self.view_is)) in
    subst (AreTold i.rows c.next_end-end.result) (sym c.in-Ok.ensures.items)
    (still_told i.rows i.told i.pieces.items c.args.marks c.self.invariant c.word-whole.ensures.whole c.next_end-end.result next)

pub returns-in-Ok : goal.returns-in-Ok
returns-in-Ok c =
    let i = c.self.inside in
    let old = first_rows i.told i.pieces.items in
    let long = length-first_rows i.told i.pieces.items in
    let next = end_is i.rows i.told i.pieces.items c.self.invariant c.next_end-end.result (c.next_end-end.ensures.end ∙ sym (ap next_end c.self.view_is)) in
    let part : c.next_end-end.result - i.told ≡ min i.rows (length old + VECTOR) - length old = omega (arith, next, long, c.self.invariant) in
    rw (← c.self.view_is)
    (ap {B = RowsTold} (λ told. record { rows = i.rows; told = told })
    (ap (first_rows c.next_end-end.result) c.in-Ok.ensures.items
    ∙ told_more i.rows i.told i.pieces.items c.args.marks c.self.invariant c.word-whole.ensures.whole c.next_end-end.result next
    ∙ ap (λ n. old ++ take n c.args.marks) part))
