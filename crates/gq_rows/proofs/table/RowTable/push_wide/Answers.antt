use Rattle.std.proofs.Common.{◌≡◌, Some, false, subst, sym}
use Rattle.gq_kept.specs.Tables.{Pushes, StandsForSome, Table, is_full_table}
use Rattle.gq_outer.specs.Rows.{read}
use Rattle.gq_plan.specs.Marked.{Marked, ending}
use Rattle.gq_rows.specs.steps.Inner.{table_with}
use Rattle.gq_rows.specs.steps.Sinks.{held_by}
use Rattle.gq_rows.proofs.Insides.{of_table}
use Rattle.gq_rows.proofs.WideRows.{fault_pushed, marked_ends, plain_ends}
use Rattle.gq_rows.proofs.table.RowTable.push_wide.Goals as goal

pub returns-in-Some-fault-clause-pushes : goal.returns-in-Some-fault-clause-pushes
returns-in-Some-fault-clause-pushes c =
    fault_pushed c.self.inside c.args.self.now _ c.in-Some-fault.fault c.self.view_is c.self.invariant.small c.self.invariant.sink.form c.requires.room c.requires.stands
    (marked_ends c.args.self.now.graph c.args.self.now.bound (read c.args.row.now) c.args.fault c.in-Some-fault.fault c.in-Some-fault.is)

pub prepare-requires : goal.prepare-requires
prepare-requires c = c.self.invariant.ready

pub push-requires-clause-sure : goal.push-requires-clause-sure
push-requires-clause-sure c = c.self.invariant.sure

pub push-requires-clause-stands : goal.push-requires-clause-stands
push-requires-clause-stands c = let s = subst StandsForSome (sym c.self.view_is) c.requires.stands in (s.0, s.1)

pub push-requires-clause-room : goal.push-requires-clause-room
push-requires-clause-room c = subst (λ t. is_full_table t ≡ false) (sym c.self.view_is) c.requires.room

pub returns-clause-pushes : goal.returns-clause-pushes
returns-clause-pushes c =
    let t = c.self.inside in
    let row = read c.args.row.now in
    let here : Marked = record { row = row; mark = c.args.fault } in
    let new = held_by c.push.new.self in
    let table = of_table t t.graph.now (held_by t.sink) new _ c.push.result c.push.ensures.pushes in
    subst (λ (x : Table). Pushes (Some (ending x.graph x.bound here)) x (table_with t new) c.push.result) c.self.view_is
    (subst (λ o. Pushes o (table_with t (held_by t.sink)) (table_with t new) c.push.result) (plain_ends t.graph.now t.bound.now row c.args.fault c.in-None.is) table)
