-- The outcome of a row that a fault may mark, and that has no further conjuncts.
use Rattle.std.proofs.Common.{◌≡◌, ◌^◌, ◌<◌, false, Option, Some, None, Result, Err, [], sym, ap, subst}
use Rattle.gq_base.specs.Plain.{Graph}
use Rattle.gq_expr.specs.Reading as reading
use Rattle.gq_expr.specs.declared.Fault.{Fault}
use Rattle.gq_plan.specs.Marked.{ended, ending}
use Rattle.gq_plan.specs.Outcomes.{Row, key_meanings, meanings_of, outcome_by, row_with}
use Rattle.gq_plan.specs.declared.bound.Bound.{Bound}
use Rattle.gq_kept.specs.Tables.{Pushes, StandsForSome, Table, is_full_table, outcome_numbered}
use Rattle.gq_kept.specs.declared.refusal.RowRefusal.TheVariants as refusal
use Rattle.gq_rows.specs.declared.table.RowTable.TheInside.{Inside}
use Rattle.gq_rows.specs.steps.Inner.{table_of}
use Rattle.gq_rows.specs.steps.Sinks.{form_by, held_by}
use Rattle.gq_kept.specs.Forms.{HasForm}
use Rattle.gq_kept.proofs.Standings.{pushes}

-- a marked row ends with its fault
pub marked_ends : (g : Graph) (b : Bound) (row : reading.Assignment) (mark : Option Fault) (f : Fault) → mark ≡ Some f → ending g b (record { row = row; mark = mark }) ≡ Err f
unfolding ending
marked_ends g b row mark f e = ap (λ m. ended m (row_with (meanings_of g row b.columns) (key_meanings g row b.keys))) e

-- another row ends as one without conjuncts
pub plain_ends : (g : Graph) (b : Bound) (row : reading.Assignment) (mark : Option Fault) → mark ≡ None → outcome_numbered g b [] row ≡ Some (ending g b (record { row = row; mark = mark }))
unfolding ending outcome_by
plain_ends g b row mark e = ap (λ m. Some (ended m (row_with (meanings_of g row b.columns) (key_meanings g row b.keys)))) (sym e)

-- a table answers a fault that it looks at
pub fault_pushed : (t : Inside) (old : Table) (x : Result Row Fault) (f : Fault) → table_of t ≡ old → t.limit < 2 ^ 32 → HasForm t.bound.now (form_by t.sink) → is_full_table old ≡ false → StandsForSome old → x ≡ Err f
    → Pushes (Some x) old old (Err (refusal.Fault f))
fault_pushed t old x f view small form_is room some e =
    let h = held_by t.sink in
    subst (λ q. Pushes (Some x) q q (Err (refusal.Fault f))) view
    (pushes t.bound.now (form_by t.sink) t.limit (table_of t).alternative t.graph.now t.pushed small form_is h (subst (λ q. is_full_table q ≡ false) (sym view) room) (subst StandsForSome (sym view) some) h (Some x) (Err (refusal.Fault f)) (ap Some e))
