use Rattle.std.proofs.Common.{Ok, Err, refl, subst, sym}
use Rattle.gq_eval.specs.Asked.{asked_of}
use Rattle.gq_listed.proofs.Finding.{stay}
use Rattle.gq_listed.specs.Leads.{AreLed}
use Rattle.gq_listed.specs.Listed.{AreFinders, held_in}
use Rattle.gq_rows.specs.steps.Sinks.{table_by}
use Rattle.gq_rows.proofs.Insides.{listing_is, pushed_all_with, room_with, stands_with}
use Rattle.gq_rows.proofs.listed_rows.ListedRows.push_choices.Goals as goal

pub find_columns-requires : goal.find_columns-requires
find_columns-requires t c = c.requires.ready

pub push_choices-requires-clause-listing : goal.push_choices-requires-clause-listing
push_choices-requires-clause-listing t c = listing_is c.args.question.now.bound.now c.args.self.now.form c.requires.listing c.requires.form _ refl refl c.requires.small

pub push_choices-requires-clause-stands : goal.push_choices-requires-clause-stands
push_choices-requires-clause-stands t c = stands_with c.args.question.now _ _ _ (sym c.in_ok-find_columns.ensures.values) c.requires.stands

pub push_choices-requires-clause-room : goal.push_choices-requires-clause-room
push_choices-requires-clause-room t c = room_with c.args.question.now _ _ _ (sym c.in_ok-find_columns.ensures.values) c.requires.room

pub push_choices-requires-clause-finders : goal.push_choices-requires-clause-finders
push_choices-requires-clause-finders t c =
    let ss = c.find_columns.new.cells.sources in
    let asks = asked_of c.args.question.now.graph.now c.args.question.now.bound.now.columns in
    subst (AreFinders ss asks) (sym c.as_slice-held.ensures.value)
    (c.in_ok-hold_columns.ensures.finders ss asks (subst (AreFinders ss asks) (sym c.as_slice-finders.ensures.value) c.in_ok-find_columns.ensures.finds))

pub push_choices-requires-clause-led : goal.push_choices-requires-clause-led
push_choices-requires-clause-led t c = subst (AreLed c.args.question.now.graph.now c.args.typed.now c.args.chunk.now) (sym c.as_slice-held.ensures.value) c.in_ok-hold_columns.ensures.led

pub returns-in-Ok-clause-pushes : goal.returns-in-Ok-clause-pushes
returns-in-Ok-clause-pushes t c = pushed_all_with c.args.question.now _ _ _ (sym c.in_ok-find_columns.ensures.values) _ (table_by c.args.question.now (held_in c.push_choices.new.self)) (Ok c.in-Ok.more) c.in-Ok.ensures.pushes

pub returns-in-Err-clause-pushes : goal.returns-in-Err-clause-pushes
returns-in-Err-clause-pushes t c = pushed_all_with c.args.question.now _ _ _ (sym c.in_ok-find_columns.ensures.values) _ (table_by c.args.question.now (held_in c.push_choices.new.self)) (Err c.in-Err.refusal) c.in-Err.ensures.pushes

pub returns-in-Ok-clause-ready : goal.returns-in-Ok-clause-ready
returns-in-Ok-clause-ready t c = λ e.
    stay c.find_columns.new.cells.sources c.push_choices.new.self.cells.sources c.in-Ok.ensures.more (asked_of c.args.question.now.graph.now c.args.question.now.bound.now.columns) c.find_columns.new.finders.items c.in_ok-find_columns.ensures.finds
