use Rattle.std.proofs.Common.{◌∙◌, ◌∷◌, [], ap, arith}
use Rattle.std.proofs.lemmas.List.{map-append}
use Rattle.gq_execute.specs.Spending.{IsSpentOn}
use Rattle.gq_drain.specs.declared.testing.Test.{Test}
use Rattle.gq_execute.specs.steps.Testing.{IsTestOf, spent_on}
use Rattle.gq_execute.proofs.Covering.{zip_next}
use Rattle.gq_execute.proofs.Ending.{one_refuses}
use Rattle.gq_execute.proofs.Going.{item_at}
use Rattle.gq_pipe.proofs.Rooms.{spare_same}
use Rattle.gq_execute.proofs.testing.tests_of.Goals as goal

pub returns-in-Err-clause-refused : goal.returns-in-Err-clause-refused
returns-in-Err-clause-refused c =
    let parts = c.args.parts.now in
    let k = c.parts.part-index in
    let part = c.part-item.result in
    one_refuses c.args.graph.now c.args.settings.now.rows parts k part c.in-Err.refusal (item_at parts k part c.parts-test.true c.part-item.is) c.in-Err.ensures.refused

pub parts-preserved : goal.parts-preserved
parts-preserved c =
    let i = c.parts.invariant in
    let g = c.args.graph.now in
    let parts = c.args.parts.now in
    let k = c.parts.part-index in
    let part = c.part-item.result in
    let low = c.parts-test.true in
    let is = c.part-item.is in
    let pushed = c.in_ok-push-in-Ok.ensures.pushed in
    let test = c.in-Ok.test in
    record {
      slots = c.in-Ok.ensures.slots ∙ i.slots;
      tests = zip_next (IsTestOf g c.args.settings.now.rows) parts c.parts.all c.push.new.self k part test i.tests low is pushed c.in-Ok.ensures.test;
      spent = zip_next (IsSpentOn g c.args.settings.now.order) parts (spent_on c.parts.all) (spent_on c.push.new.self) k part test.keys.spent i.spent low is
          (ap spent_on pushed ∙ map-append (λ (t : Test). t.keys.spent) c.parts.all (test ∷ [])) c.in-Ok.ensures.spent;
    }

pub test_of-requires-clause-slots : goal.test_of-requires-clause-slots
test_of-requires-clause-slots c = omega (arith, c.requires.slots, spare_same c.args.pool.now c.parts.pool c.parts.invariant.slots)
