use Rattle.std.proofs.Common.{◌-◌, ◌∙◌, ap, arith, refl, take}
use Rattle.gq_values.proofs.TopRows.{top-behind, top-dropped, top-refused, with-row}
use Rattle.gq_values.proofs.held.Rows.add_first.Goals as goal

pub returns-then-is_left_behind : goal.returns-then-is_left_behind
returns-then-is_left_behind g c =
    let k = c.if-is_left_behind.ensures refl in
    with-row _ _ _ _ c.args.self.now c.args.self.now k.row k.is (top-behind _ _ _ c.args.self.now k.row k.behind)

pub returns-in-Err : goal.returns-in-Err
returns-in-Err g c = top-refused _ _ _ c.has_room-may.result _ c.args.self.now c.add.new.self c.in-Err.refusal c.has_room-may.ensures.no c.in-Err.ensures

pub returns-then-is_last_behind : goal.returns-then-is_last_behind
returns-then-is_last_behind g c =
    let e = rw c.in-Ok-true.field-0-test at c.in-Ok-true.ensures in
    let old = c.args.self.now in
    let mid = c.add.new.self in
    let new = record mid { columns = c.truncate.new.self; keys = c.truncate-then-is_last_behind.new.self; count = mid.count - 1 } in
    with-row _ _ _ _ old new e.0.row e.0.is
    (top-dropped _ _ _ _ old mid new e.0 (c.has_room-may.ensures.yes e.1)
    (c.truncate.ensures.items ∙ ap (λ n. take n mid.columns.items) (c.len-columns.ensures ∙ old.columns.ok.0))
    (c.truncate-then-is_last_behind.ensures.items ∙ ap (λ n. take n mid.keys.items) (c.len-keys.ensures ∙ old.keys.ok.0))
    (omega (arith, e.0.count)) refl (λ lt. c.if-is_last_behind.ensures refl lt))
