use Rattle.std.proofs.Common.{◌<◌, arith, length, refl, subst, sym, true}
use Rattle.gq_group.specs.Groups.{AreSelected}
use Rattle.gq_kept.proofs.Chunking.{came_all, came_first, came_full, came_next, came_some, here_is, refused}
use Rattle.gq_kept.specs.steps.Choosing.{choices_left}
use Rattle.gq_rows.specs.steps.Sinks.{held_by, table_by}
use Rattle.gq_rows.proofs.Insides.{same_by}
use Rattle.gq_rows.proofs.Passing.{left_less, told_of}
use Rattle.gq_rows.proofs.choices.push_each.Goals as goal

pub choices-init : goal.choices-init
choices-init t c = record {
  sink = c.requires.sink;
  room = c.requires.room;
  past = c.begin-past.ensures c.args.typed.now c.requires.lead;
  some = c.requires.stands;
  came = came_first (t.A.Admits.admitted c.args.admits.now) c.args.question.now.graph.now c.args.typed.now c.args.chunk.now (table_by c.args.question.now (held_by c.args.sink.now)) true c.args.choice.now c.requires.begins;
}

pub choices-preserved : goal.choices-preserved
choices-preserved t c =
    let q = c.args.question.now in
    let admitted = t.A.Admits.admitted c.args.admits.now in
    let g = q.graph.now in
    let y = c.args.typed.now in
    let chunk = c.args.chunk.now in
    let old = table_by q (held_by c.args.sink.now) in
    let mid = table_by q (held_by c.choices.sink) in
    let new = table_by q (held_by c.push_row.new.sink) in
    let i = c.choices.invariant in
    let is = here_is admitted g y chunk old q.bound.now c.new-row.result c.pass_behind-found.new.choice.positions c.positions-positions.result.now refl c.new-row.ensures c.positions-positions.ensures in
    let came = rw c.if-not-found.false at (c.pass_behind-found.ensures.came admitted (held_by c.args.sink.now) (rw c.choices-test.true at i.came)) in
    let pushes = rw c.in-Ok-Go.field-0-is at c.in-Ok-Go.ensures.pushes in
    record {
      sink = c.in-Ok-Go.ensures.sink;
      room = pushes.1;
      past = c.recall.ensures y chunk (told_of g q.bound.now y chunk (table_by q (held_by c.choices.sink)) c.pass_behind-found.new.past c.pass_behind-found.ensures.past);
      some = came_some admitted g y chunk old mid c.pass_behind-found.new.choice came (same_by q (held_by c.args.sink.now) (held_by c.choices.sink)) _ is new (same_by q (held_by c.choices.sink) (held_by c.push_row.new.sink)) pushes.0 i.some;
      came = came_next admitted g y chunk old mid c.pass_behind-found.new.choice came (same_by q (held_by c.args.sink.now) (held_by c.choices.sink)) _ is new (same_by q (held_by c.choices.sink) (held_by c.push_row.new.sink)) pushes.0 c.next-found.result c.next-found.new.self c.next-found.ensures;
    }

pub returns-in-Ok-Enough-clause-pushes : goal.returns-in-Ok-Enough-clause-pushes
returns-in-Ok-Enough-clause-pushes t c =
    let q = c.args.question.now in
    let admitted = t.A.Admits.admitted c.args.admits.now in
    let g = q.graph.now in
    let y = c.args.typed.now in
    let chunk = c.args.chunk.now in
    let old = table_by q (held_by c.args.sink.now) in
    let mid = table_by q (held_by c.choices.sink) in
    let new = table_by q (held_by c.push_row.new.sink) in
    let i = c.choices.invariant in
    let is = here_is admitted g y chunk old q.bound.now c.new-row.result c.pass_behind-found.new.choice.positions c.positions-positions.result.now refl c.new-row.ensures c.positions-positions.ensures in
    let came = rw c.if-not-found.false at (c.pass_behind-found.ensures.came admitted (held_by c.args.sink.now) (rw c.choices-test.true at i.came)) in
    let pushes = rw c.in-Ok-Enough.field-0-is at c.in-Ok-Enough.ensures.pushes in
    (came_full admitted g y chunk old mid c.pass_behind-found.new.choice came (same_by q (held_by c.args.sink.now) (held_by c.choices.sink)) _ is new (same_by q (held_by c.choices.sink) (held_by c.push_row.new.sink)) pushes.0 pushes.1, pushes.1)

pub returns-in-Err-clause-pushes : goal.returns-in-Err-clause-pushes
returns-in-Err-clause-pushes t c =
    let q = c.args.question.now in
    let admitted = t.A.Admits.admitted c.args.admits.now in
    let g = q.graph.now in
    let y = c.args.typed.now in
    let chunk = c.args.chunk.now in
    let old = table_by q (held_by c.args.sink.now) in
    let mid = table_by q (held_by c.choices.sink) in
    let new = table_by q (held_by c.push_row.new.sink) in
    let i = c.choices.invariant in
    let is = here_is admitted g y chunk old q.bound.now c.new-row.result c.pass_behind-found.new.choice.positions c.positions-positions.result.now refl c.new-row.ensures c.positions-positions.ensures in
    let came = rw c.if-not-found.false at (c.pass_behind-found.ensures.came admitted (held_by c.args.sink.now) (rw c.choices-test.true at i.came)) in
    refused admitted g y chunk old mid c.pass_behind-found.new.choice came (same_by q (held_by c.args.sink.now) (held_by c.choices.sink)) _ is new c.in-Err.refusal c.in-Err.ensures.pushes

pub returns-then-not-found-clause-pushes : goal.returns-then-not-found-clause-pushes
returns-then-not-found-clause-pushes t c =
    let q = c.args.question.now in
    let admitted = t.A.Admits.admitted c.args.admits.now in
    let i = c.choices.invariant in
    let came = rw c.if-not-found.true at (c.pass_behind-found.ensures.came admitted (held_by c.args.sink.now) (rw c.choices-test.true at i.came)) in
    (came_all admitted q.graph.now c.args.typed.now c.args.chunk.now (table_by q (held_by c.args.sink.now)) (table_by q (held_by c.choices.sink)) c.pass_behind-found.new.choice came, i.room)

pub new-row-requires-clause-selected : goal.new-row-requires-clause-selected
new-row-requires-clause-selected t c =
    let admitted = t.A.Admits.admitted c.args.admits.now in
    let came = rw c.if-not-found.false at (c.pass_behind-found.ensures.came admitted (held_by c.args.sink.now) (rw c.choices-test.true at c.choices.invariant.came)) in
    subst (AreSelected c.args.chunk.now.groups.now) (sym c.positions-positions.ensures) (came.chosen refl).selected

pub next-found-requires-clause-stands : goal.next-found-requires-clause-stands
next-found-requires-clause-stands t c =
    let admitted = t.A.Admits.admitted c.args.admits.now in
    let came = rw c.if-not-found.false at (c.pass_behind-found.ensures.came admitted (held_by c.args.sink.now) (rw c.choices-test.true at c.choices.invariant.came)) in
    came.chosen refl

pub choices-smaller : goal.choices-smaller
choices-smaller t c =
    let gs = c.args.chunk.now.groups.now in
    let less = left_less gs c.next-found.result c.pass_behind-found.new.choice c.next-found.new.self c.next-found.ensures in
    let left = rw c.if-not-found.false at c.pass_behind-found.ensures.left in
    subst (λ f. length (choices_left gs c.next-found.result c.next-found.new.self) < length (choices_left gs f c.choices.choice)) (sym c.choices-test.true) (omega (arith, less, left))

pub recall-requires-clause-stands : goal.recall-requires-clause-stands
recall-requires-clause-stands t c =
    let q = c.args.question.now in
    let admitted = t.A.Admits.admitted c.args.admits.now in
    let g = q.graph.now in
    let y = c.args.typed.now in
    let chunk = c.args.chunk.now in
    let old = table_by q (held_by c.args.sink.now) in
    let mid = table_by q (held_by c.choices.sink) in
    let new = table_by q (held_by c.push_row.new.sink) in
    let i = c.choices.invariant in
    let is = here_is admitted g y chunk old q.bound.now c.new-row.result c.pass_behind-found.new.choice.positions c.positions-positions.result.now refl c.new-row.ensures c.positions-positions.ensures in
    let came = rw c.if-not-found.false at (c.pass_behind-found.ensures.came admitted (held_by c.args.sink.now) (rw c.choices-test.true at i.came)) in
    let pushes = rw c.in-Ok-Go.field-0-is at c.in-Ok-Go.ensures.pushes in
    came_some admitted g y chunk old mid c.pass_behind-found.new.choice came (same_by q (held_by c.args.sink.now) (held_by c.choices.sink)) _ is new (same_by q (held_by c.choices.sink) (held_by c.push_row.new.sink)) pushes.0 i.some

pub recall-requires-clause-room : goal.recall-requires-clause-room
recall-requires-clause-room t c = (rw c.in-Ok-Go.field-0-is at c.in-Ok-Go.ensures.pushes).1
