use Rattle.std.proofs.Common.{◌≡◌, ◌∙◌, Some, length, true, false, refl, sym, ap}
use Rattle.std.specs.Prelude.{slice_get}
use Rattle.std.proofs.lemmas.Option.{slice_get_read}
use Rattle.gq_filter.specs.Placed.{Passes, Refuses}
use Rattle.gq_steps.specs.Moves.{run_of}
use Rattle.gq_sift.proofs.Refused.{drops_from, tested_as}
use Rattle.gq_sift.proofs.edge_tests.test_by.Goals as goal
use Rattle.gq_sift.proofs.edge_tests.test_by.Goals.{In-Some}

-- the test is one of the run
there : (c : In-Some) → slice_get (run_of c.args.plan_run.now).tests c.args.test ≡ Some c.in-Some.test.now
there c =
    ap (λ l. slice_get l c.args.test) (sym c.deref.ensures.value)
    ∙ slice_get_read c.deref.result.now (length c.deref.result.now) c.args.test c.in-Some.test.now refl c.in-Some.ensures.lookup.3.0 c.in-Some.ensures.lookup.1

pub returns-in-None-clause-drops : goal.returns-in-None-clause-drops
returns-in-None-clause-drops c = drops_from _ c.args.marks.now c.requires.marks.long

pub returns-in-None-placed-clause-drops : goal.returns-in-None-placed-clause-drops
returns-in-None-placed-clause-drops c = drops_from _ c.args.marks.now c.requires.marks.long

pub returns-in-Some-placed-clause-drops : goal.returns-in-Some-placed-clause-drops
returns-in-Some-placed-clause-drops c =
    let d = c.test_places.ensures.drops in
    let is = there (goal.at.returns-in-Some-placed-clause-drops c).In-Some in
    record {
      long = d.long;
      kept = d.kept;
      dropped = λ j before after.
          tested_as (run_of c.args.plan_run.now) c.requires.run c.args.rel c.args.part c.requires.table c.args.test c.in-Some.test.now is (Refuses c.in-Some-placed.placed) false c.in-Some-placed.ensures.refuses _ (d.dropped j before after);
    }

pub returns-in-Some-placed-clause-passed : goal.returns-in-Some-placed-clause-passed
returns-in-Some-placed-clause-passed c = λ on j after.
    tested_as (run_of c.args.plan_run.now) c.requires.run c.args.rel c.args.part c.requires.table c.args.test c.in-Some.test.now (there (goal.at.returns-in-Some-placed-clause-passed c).In-Some) (Passes c.in-Some-placed.placed) true c.in-Some-placed.ensures.passes _ (c.test_places.ensures.passed on j after)
