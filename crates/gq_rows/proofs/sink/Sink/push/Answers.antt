use Rattle.std.proofs.Common.{subst, sym}
use Rattle.gq_kept.specs.Tables.{Pushes}
use Rattle.gq_kept.specs.declared.form.Form.TheVariants.{All, Classes}
use Rattle.gq_project.specs.Judged.{asked_outcome}
use Rattle.gq_values.specs.Keeping.{held_of}
use Rattle.gq_rows.specs.steps.Sinks.{held_by, table_by}
use Rattle.gq_rows.proofs.Insides.{all-ready, classes-few, classes-ready, pushed_by}
use Rattle.gq_rows.proofs.sink.Sink.push.Goals as goal

pub push_all-requires-clause-open : goal.push_all-requires-clause-open
push_all-requires-clause-open t c = all-ready c.args.question.now c.in-Kept.rows c.requires.small (rw c.in-Kept.is at c.requires.sink.form) (rw c.in-Kept.is at c.requires.stands)

pub push_class-requires-clause-open : goal.push_class-requires-clause-open
push_class-requires-clause-open t c = classes-few c.args.question.now c.in-Classes.rows c.requires.small (rw c.in-Classes.is at c.requires.sink.form) (rw c.in-Classes.is at c.requires.stands)

pub push_class-requires-clause-wide : goal.push_class-requires-clause-wide
push_class-requires-clause-wide t c = classes-ready c.args.question.now c.in-Classes.rows c.requires.small (rw c.in-Classes.is at c.requires.sink.form) (rw c.in-Classes.is at c.requires.stands)

pub returns-in-Kept-clause-pushes : goal.returns-in-Kept-clause-pushes
returns-in-Kept-clause-pushes t c =
    let q = c.args.question.now in
    let o = asked_outcome q (t.R.Assigned.assignment c.args.row.now) in
    let new = held_of c.push_all.new.self in
    subst (λ s. Pushes o (table_by q (held_by s)) (table_by q new) c.push_all.result) (sym c.in-Kept.is)
    (pushed_by q All (held_of c.in-Kept.rows) c.requires.small (rw c.in-Kept.is at c.requires.sink.form) (rw c.in-Kept.is at c.requires.stands) (rw c.in-Kept.is at c.requires.room) o new c.push_all.result c.push_all.ensures)

pub returns-in-Classes-clause-pushes : goal.returns-in-Classes-clause-pushes
returns-in-Classes-clause-pushes t c =
    let q = c.args.question.now in
    let o = asked_outcome q (t.R.Assigned.assignment c.args.row.now) in
    let new = held_of c.push_class.new.self in
    subst (λ s. Pushes o (table_by q (held_by s)) (table_by q new) c.push_class.result) (sym c.in-Classes.is)
    (pushed_by q Classes (held_of c.in-Classes.rows) c.requires.small (rw c.in-Classes.is at c.requires.sink.form) (rw c.in-Classes.is at c.requires.stands) (rw c.in-Classes.is at c.requires.room) o new c.push_class.result c.push_class.ensures)
