use Rattle.std.proofs.Common.{◌∙◌, Err, Ok, ap, refl, subst, sym}
use Rattle.std.specs.List.{AllByRecursion}
use Rattle.gq_group.specs.Chunks.{assignment_at}
use Rattle.gq_group.specs.Groups.{choices, later_choices}
use Rattle.gq_law_plans.specs.Safe.{IsMade}
use Rattle.gq_plan.specs.Rows.{assigned}
use Rattle.gq_kept.proofs.Chunking.{same_again, same_table}
use Rattle.gq_kept.specs.declared.refusal.More.TheVariants as more
use Rattle.gq_drain.proofs.Chosen.{each_made_of, first_chosen, first_left, next_chosen, next_left, outs, owed_pushed}
use Rattle.gq_drain.proofs.Pushing.{taken_full, taken_more, taken_none, taken_refused}
use Rattle.gq_drain.specs.steps.Continued.{Continuation, ended_by}
use Rattle.gq_drain.specs.steps.Taken.{Taken}
use Rattle.gq_rows.specs.Growing.{IsContinued}
use Rattle.gq_drain.proofs.chunks.push_rows.Goals as goal

pub choices-init : goal.choices-init
choices-init t c =
    let g = c.args.graph.now in
    let old = c.args.table.now in
    let y = c.args.typed.now in
    let gs = c.args.chunk.now.groups.now in
    let out = outs (ended_by (t.C.Continues.continuation c.args.rows.now).rows g old.bound y) g y c.args.chunk.now in
    let left = first_left gs c.in_ok-found.found c.first.new.self c.in_ok-found.ensures in
    record {
      ready = c.requires.ready;
      continuation = refl;
      same = same_table old;
      room = c.requires.room;
      some = c.requires.stands;
      stands = first_chosen gs c.in_ok-found.found c.first.new.self c.in_ok-found.ensures;
      made =
          subst (AllByRecursion (λ ps. IsMade g y (assigned y (assignment_at g y c.args.chunk.now ps)))) left
          (each_made_of (IsMade g y) (assigned y) (assignment_at g y c.args.chunk.now) (choices gs) c.requires.made);
      came = subst (λ l. Taken (out (choices gs)) (out l) old old) left (taken_none (out (choices gs)) old);
    }

pub begin-requires-clause-made : goal.begin-requires-clause-made
begin-requires-clause-made t c =
    let i = c.choices.invariant in
    let g = c.args.graph.now in
    let y = c.args.typed.now in
    let way = i.continuation in
    let graph = ap (λ (w : Continuation). w.graph) way ∙ c.requires.graph in
    let typed = ap (λ (w : Continuation). w.typed) way ∙ c.requires.typed in
    let at = c.new-row.ensures ∙ ap (λ ps. assigned y (assignment_at g y c.args.chunk.now ps)) c.positions.ensures in
    let now = t.C.Continues.continuation c.choices.rows in
    let row = c.new-row.result in
    subst (λ k. IsMade k now.typed row) (sym graph) (subst (λ z. IsMade g z row) (sym typed) (subst (IsMade g y) (sym at) (rw c.choices-test.true at i.made).0))

pub returns-in-Ok-Enough-clause-pushes : goal.returns-in-Ok-Enough-clause-pushes
returns-in-Ok-Enough-clause-pushes t c =
    let g = c.args.graph.now in
    let y = c.args.typed.now in
    let old = c.args.table.now in
    let mid = c.choices.table in
    let new = c.push_owed.new.table in
    let i = c.choices.invariant in
    let rows = (t.C.Continues.continuation c.args.rows.now).rows in
    let owed = c.begin.ensures.owed ∙ ap (λ (w : Continuation). w.rows c.new-row.result) i.continuation in
    let at = c.new-row.ensures ∙ ap (λ ps. assigned y (assignment_at g y c.args.chunk.now ps)) c.positions.ensures in
    let pushes = owed_pushed rows g old.bound mid new (t.C.Continues.owed c.begin.new.self) c.new-row.result _ (Ok more.Enough) (i.same.graph ∙ c.requires.over) i.same.bound owed at
    (rw c.in-Ok-Enough.field-0-is at c.in-Ok-Enough.ensures.pushes) in
    (taken_full _ old mid _ _ _ refl (rw c.choices-test.true at i.came) new pushes.0 pushes.1, pushes.1)

pub returns-in-Err-clause-pushes : goal.returns-in-Err-clause-pushes
returns-in-Err-clause-pushes t c =
    let g = c.args.graph.now in
    let y = c.args.typed.now in
    let old = c.args.table.now in
    let mid = c.choices.table in
    let new = c.push_owed.new.table in
    let i = c.choices.invariant in
    let rows = (t.C.Continues.continuation c.args.rows.now).rows in
    let owed = c.begin.ensures.owed ∙ ap (λ (w : Continuation). w.rows c.new-row.result) i.continuation in
    let at = c.new-row.ensures ∙ ap (λ ps. assigned y (assignment_at g y c.args.chunk.now ps)) c.positions.ensures in
    let pushes = owed_pushed rows g old.bound mid new (t.C.Continues.owed c.begin.new.self) c.new-row.result _ (Err c.in-Err.refusal) (i.same.graph ∙ c.requires.over) i.same.bound owed at
    c.in-Err.ensures.pushes in
    taken_refused _ old mid _ _ _ refl (rw c.choices-test.true at i.came) i.same new c.in-Err.refusal pushes

pub choices-preserved : goal.choices-preserved
choices-preserved t c =
    let g = c.args.graph.now in
    let y = c.args.typed.now in
    let old = c.args.table.now in
    let mid = c.choices.table in
    let new = c.push_owed.new.table in
    let gs = c.args.chunk.now.groups.now in
    let i = c.choices.invariant in
    let rows = (t.C.Continues.continuation c.args.rows.now).rows in
    let out = outs (ended_by rows g old.bound y) g y c.args.chunk.now in
    let query = c.in-Ok-Go.ensures.query in
    let left = next_left gs c.next-found.result c.choices.choice c.next-found.new.self c.next-found.ensures in
    let owed = c.begin.ensures.owed ∙ ap (λ (w : Continuation). w.rows c.new-row.result) i.continuation in
    let at = c.new-row.ensures ∙ ap (λ ps. assigned y (assignment_at g y c.args.chunk.now ps)) c.positions.ensures in
    let pushes = owed_pushed rows g old.bound mid new (t.C.Continues.owed c.begin.new.self) c.new-row.result _ (Ok more.Go) (i.same.graph ∙ c.requires.over) i.same.bound owed at
    (rw c.in-Ok-Go.field-0-is at c.in-Ok-Go.ensures.pushes) in
    let more_taken : Taken (out (choices gs)) (out (later_choices gs c.choices.choice.positions)) old new = taken_more _ old mid _ _ _ refl (rw c.choices-test.true at i.came) new pushes.0 in
    record {
      ready = c.in-Ok-Go.ensures.ready;
      continuation = c.in-Ok-Go.ensures.same ∙ c.begin.ensures.same ∙ i.continuation;
      same = same_again old mid new i.same query;
      room = pushes.1;
      some = (_, pushes.0 i.some.0 i.some.1);
      stands = next_chosen gs c.next-found.result c.choices.choice c.next-found.new.self c.next-found.ensures;
      made = subst (AllByRecursion (λ ps. IsMade g y (assigned y (assignment_at g y c.args.chunk.now ps)))) left (rw c.choices-test.true at i.made).1;
      came = subst (λ l. Taken (out (choices gs)) (out l) old new) left more_taken;
    }

pub push_owed-requires-clause-continued : goal.push_owed-requires-clause-continued
push_owed-requires-clause-continued t c = subst IsContinued (sym c.choices.invariant.same.bound) c.requires.continued
