use Rattle.std.proofs.Common.{arith}
use Rattle.gq_rows.specs.steps.Sinks.{held_by, table_by}
use Rattle.gq_rows.proofs.Passing.{left_past, moved_on, passed_on}
use Rattle.gq_rows.proofs.behind.pass_more.Goals as goal

pub choices-init : goal.choices-init
choices-init c = record {
  past = c.requires.past;
  left = omega arith;
  chosen = λ e. c.requires.choice;
  came = λ admitted held came. came;
}

pub choices-preserved : goal.choices-preserved
choices-preserved c =
    let q = c.args.question.now in
    let i = c.choices.invariant in
    let now = held_by c.args.sink.now in
    let gs = c.args.chunk.now.groups.now in
    let passes = rw c.positions-positions.ensures at (c.is_behind.ensures c.if-not-is_behind.false) in
    let past = c.look.ensures (table_by q now) i.past in
    record {
      past = past;
      left = (let less = left_past gs c.look.new.past c.go_on-found.result c.choices.choice c.go_on-found.new.choice c.go_on-found.ensures in
          let before = rw c.choices-test.true at i.left in omega (arith, less, before));
      chosen = moved_on gs c.look.new.past c.go_on-found.result c.choices.choice c.go_on-found.new.choice c.go_on-found.ensures;
      came = λ admitted held came.
          passed_on admitted q c.args.typed.now c.args.chunk.now held now c.choices.choice (rw c.choices-test.true at (i.came admitted held came)) passes c.look.new.past past c.go_on-found.result c.go_on-found.new.choice c.go_on-found.ensures;
    }

pub returns-then-not-is_behind-clause-came : goal.returns-then-not-is_behind-clause-came
returns-then-not-is_behind-clause-came c = λ admitted held came. rw c.choices-test.true at (c.choices.invariant.came admitted held came)

pub returns-then-not-is_behind-clause-left : goal.returns-then-not-is_behind-clause-left
returns-then-not-is_behind-clause-left c = rw c.choices-test.true at c.choices.invariant.left

pub returns-clause-came : goal.returns-clause-came
returns-clause-came c = λ admitted held came. rw c.choices-test.false at (c.choices.invariant.came admitted held came)

pub returns-clause-left : goal.returns-clause-left
returns-clause-left c = rw c.choices-test.false at c.choices.invariant.left
