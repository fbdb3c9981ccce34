use Rattle.std.proofs.Common.{◌∙◌, ap, map, refl, Err, Ok, subst, sym}
use Rattle.gq_plan.specs.Marked.{ending}
use Rattle.gq_kept.proofs.Chunking.{same_again, same_table}
use Rattle.gq_kept.specs.declared.refusal.More.TheVariants as more
use Rattle.gq_drain.proofs.Pushing.{marked_pushed, taken_full, taken_more, taken_none, taken_refused}
use Rattle.gq_rows.specs.Growing.{IsContinued}
use Rattle.gq_drain.proofs.continues.push_owed.Goals as goal

pub rows-init : goal.rows-init
rows-init t c = record {
  ready = c.requires.ready;
  continuation = refl;
  same = same_table c.args.table.now;
  room = c.requires.room;
  some = c.requires.stands;
  came = taken_none _ c.args.table.now;
}

pub rows-preserved : goal.rows-preserved
rows-preserved t c =
    let i = c.rows.invariant in
    let old = c.args.table.now in
    let out = map (ending old.graph old.bound) in
    let query = c.in-Ok-Go.ensures.query in
    let pushes = marked_pushed old.graph old.bound c.rows.table c.push_wide.new.self c.row.result.now c.fault.result (t.C.Continues.reached c.advance.new.self) (Ok more.Go) i.same.graph i.same.bound c.row.ensures c.fault.ensures query
    (rw c.in-Ok-Go.field-0-is at c.in-Ok-Go.ensures.pushes) in
    record {
      ready = c.advance.ensures.ready;
      continuation = c.advance.ensures.same ∙ i.continuation;
      same = same_again old c.rows.table c.push_wide.new.self i.same query;
      room = pushes.1;
      some = (_, pushes.0 i.some.0 i.some.1);
      came = taken_more _ old c.rows.table _ _ _ (ap out (c.advance.ensures.next c.rows-test.true)) i.came c.push_wide.new.self pushes.0;
    }

pub returns-in-Ok-Enough-clause-pushes : goal.returns-in-Ok-Enough-clause-pushes
returns-in-Ok-Enough-clause-pushes t c =
    let i = c.rows.invariant in
    let old = c.args.table.now in
    let out = map (ending old.graph old.bound) in
    let pushes = marked_pushed old.graph old.bound c.rows.table c.push_wide.new.self c.row.result.now c.fault.result (t.C.Continues.reached c.advance.new.self) (Ok more.Enough) i.same.graph i.same.bound c.row.ensures c.fault.ensures c.in-Ok-Enough.ensures.query
    (rw c.in-Ok-Enough.field-0-is at c.in-Ok-Enough.ensures.pushes) in
    (taken_full _ old c.rows.table _ _ _ (ap out (c.advance.ensures.next c.rows-test.true)) i.came c.push_wide.new.self pushes.0 pushes.1, pushes.1)

pub returns-in-Err-clause-pushes : goal.returns-in-Err-clause-pushes
returns-in-Err-clause-pushes t c =
    let i = c.rows.invariant in
    let old = c.args.table.now in
    let out = map (ending old.graph old.bound) in
    let pushes = marked_pushed old.graph old.bound c.rows.table c.push_wide.new.self c.row.result.now c.fault.result (t.C.Continues.reached c.advance.new.self) (Err c.in-Err.refusal) i.same.graph i.same.bound c.row.ensures c.fault.ensures tt
    c.in-Err.ensures.pushes in
    taken_refused _ old c.rows.table _ _ _ (ap out (c.advance.ensures.next c.rows-test.true)) i.came i.same c.push_wide.new.self c.in-Err.refusal pushes

pub push_wide-requires-clause-continued : goal.push_wide-requires-clause-continued
push_wide-requires-clause-continued t c = subst IsContinued (sym c.rows.invariant.same.bound) c.requires.continued
