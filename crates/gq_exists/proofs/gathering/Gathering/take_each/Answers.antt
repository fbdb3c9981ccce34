use Rattle.gq_exists.proofs.Taking.{taken_all, taken_first, taken_next, taken_stops}
use Rattle.gq_exists.proofs.gathering.Gathering.take_each.Goals as goal

pub choices-init : goal.choices-init
choices-init c = taken_first c.args.typed.now c.args.chunk.now c.args.self.now c.requires.is c.in_ok-found.found c.first.new.self c.in_ok-found.ensures

pub choices-preserved : goal.choices-preserved
choices-preserved c =
    let came = rw c.choices-test.true at c.choices.invariant in
    taken_next c.args.typed.now c.args.chunk.now c.args.self.now c.choices.self c.choices.choice came c.take_at.new.self c.positions.result.now tt c.positions.ensures c.in-Ok.ensures c.next-found.result c.next-found.new.self c.next-found.ensures

pub returns-in-Err : goal.returns-in-Err
returns-in-Err c =
    let came = rw c.choices-test.true at c.choices.invariant in
    taken_stops c.args.typed.now c.args.chunk.now c.args.self.now c.choices.self c.choices.choice came c.take_at.new.self c.positions.result.now c.in-Err.refusal c.positions.ensures c.in-Err.ensures

pub returns : goal.returns
returns c =
    let came = rw c.choices-test.false at c.choices.invariant in
    taken_all c.args.typed.now c.args.chunk.now c.args.self.now c.choices.self c.choices.choice came
