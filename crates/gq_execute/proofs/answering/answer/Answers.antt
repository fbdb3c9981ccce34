use Rattle.std.proofs.Common.{◌∙◌, ap, length}
use Rattle.std.proofs.lemmas.Bool.{or_from}
use Rattle.gq_plan.specs.declared.Bound.{Bound}
use Rattle.gq_execute.specs.Answering.{question}
use Rattle.gq_execute.proofs.Going.{finished, spent_all}
use Rattle.gq_execute.proofs.Parted.{bound_parted}
use Rattle.gq_execute.proofs.answering.answer.Goals as goal

pub fill-requires-clause-sound : goal.fill-requires-clause-sound
fill-requires-clause-sound c = c.requires.ready.sound

pub fill-requires-clause-begins : goal.fill-requires-clause-begins
fill-requires-clause-begins c = c.requires.ready.begins

pub fill-requires-clause-tests_sound : goal.fill-requires-clause-tests_sound
fill-requires-clause-tests_sound c = c.requires.ready.tests_sound

pub fill-requires-clause-tests_begin : goal.fill-requires-clause-tests_begin
fill-requires-clause-tests_begin c = c.requires.ready.tests_begin

pub fill-requires-clause-placed : goal.fill-requires-clause-placed
fill-requires-clause-placed c = c.requires.ready.placed

pub fill-requires-clause-nodes : goal.fill-requires-clause-nodes
fill-requires-clause-nodes c = c.requires.ready.nodes

pub fill-requires-clause-rels : goal.fill-requires-clause-rels
fill-requires-clause-rels c = c.requires.ready.rels

pub fill-requires-clause-apart : goal.fill-requires-clause-apart
fill-requires-clause-apart c = c.requires.ready.apart

pub fill-requires-clause-walks : goal.fill-requires-clause-walks
fill-requires-clause-walks c =
    let ready = c.requires.ready in
    λ k d low. record { lengths = ready.trails; ends = ready.ends; turns = ready.turns k d low; few = ready.few k d low }

pub returns-in-Ok-finish : goal.returns-in-Ok-finish
returns-in-Ok-finish c =
    let answers = c.in-Ok.ensures.answers in
    let fills = answers.fills in
    record {
      permitted = λ query text is.
          let a = question c.args.graph.now query c.args.bound.now c.args.settings.now in
          let filled = fills.filled query text is in
          finished a (bound_parted a text c.stands_valid.ensures is) fills.turns c.fill.new.table filled.came filled.done c.in-Ok-finish.listing.lines c.in-Ok-finish.ensures.lines (or_from _ _ (answers.light query text is) (answers.light_clauses query text is));
      spends = λ query text is.
          let a = question c.args.graph.now query c.args.bound.now c.args.settings.now in
          let filled = fills.filled query text is in
          spent_all a (bound_parted a text c.stands_valid.ensures is) fills.turns c.fill.new.table filled.came filled.done answers.tested answers.listed answers.own c.in-Ok.spent c.in-Ok-finish.listing.pushed c.in-Ok-finish.ensures.pushed fills.spends (answers.on_tests query text is) (answers.on_clauses query text is) answers.all;
      columns = c.in-Ok-finish.ensures.columns ∙ ap (λ (b : Bound). length b.columns) c.in-Ok.ensures.bound;
      slots = c.in-Ok.ensures.slots;
    }
