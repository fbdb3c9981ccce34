use Rattle.std.proofs.Common.{◌≡◌, ◌+◌, ◌<◌, ℕ, Some, true, false, sym, ap, subst, arith}
use Rattle.gq_bits.specs.Places.{is_marked}
use Rattle.gq_steps.specs.Levels.{step_at}
use Rattle.gq_steps.specs.Moves.{run_of}
use Rattle.gq_steps.proofs.Trying.{as_many_steps}
use Rattle.gq_steps.specs.Tests.{test_of}
use Rattle.gq_sift.specs.declared.finding.ListPart.{ListPart}
use Rattle.gq_sift.specs.steps.EdgeTests.{IsTestedAs}
use Rattle.gq_sift.specs.steps.Parts.{AreIn, Drops}
use Rattle.gq_sift.proofs.Cutting.{range_told, some_told}
use Rattle.gq_sift.proofs.Judged.{can_follow}
use Rattle.gq_sift.proofs.Refused.{among_left, in_part}
use Rattle.gq_sift.proofs.Told.{AreTold, told_next, told_sifted}
use Rattle.gq_sift.proofs.edge_tests.test_part.Goals as goal
use Rattle.gq_sift.proofs.edge_tests.test_part.Goals.{In-loop-depth}

pub part_from-part-requires-clause-can : goal.part_from-part-requires-clause-can
part_from-part-requires-clause-can c = can_follow (run_of c.args.plan_run.now) c.requires.run c.args.group c.requires.steps 0 c.args.row.now c.requires.held c.args.follow c.requires.extends

pub loop-depth-init : goal.loop-depth-init
loop-depth-init c = (c.requires.among, λ d above below. absurd (omega (arith, above, below)), λ on. c.are_all-told.ensures on)

above : (c : In-loop-depth) → c.args.group.first < c.loop-depth.depth
above c = let low = c.loop-depth.auto.depth in omega arith

pub test_at-requires : goal.test_at-requires
test_at-requires c = let end = c.requires.steps.inside in let below = c.loop-depth-test.true in omega (arith, end, below, as_many_steps c.args.plan_run.now)

pub test_by-told-requires-clause-table : goal.test_by-told-requires-clause-table
test_by-told-requires-clause-table c = sym (ap (λ (p : ListPart). p.table) c.part_from-part.ensures.is)

pub test_by-told-requires-clause-ordered : goal.test_by-told-requires-clause-ordered
test_by-told-requires-clause-ordered c =
    let low = ap (λ (p : ListPart). p.low) c.part_from-part.ensures.is in
    let high = ap (λ (p : ListPart). p.high) c.part_from-part.ensures.is in
    omega (arith, low, high)

pub test_by-told-requires-clause-few : goal.test_by-told-requires-clause-few
test_by-told-requires-clause-few c =
    let low = ap (λ (p : ListPart). p.low) c.part_from-part.ensures.is in
    let high = ap (λ (p : ListPart). p.high) c.part_from-part.ensures.is in
    omega (arith, low, high, c.requires.count)

pub test_by-told-requires-clause-marks : goal.test_by-told-requires-clause-marks
test_by-told-requires-clause-marks c =
    subst (λ (p : ListPart). AreIn p c.loop-depth.marks) (sym c.part_from-part.ensures.is)
    (in_part (run_of c.args.plan_run.now) c.args.group c.args.follow c.args.row.now c.args.first c.args.count c.requires.count c.loop-depth.marks c.loop-depth.invariant.0)

pub loop-depth-preserved : goal.loop-depth-preserved
loop-depth-preserved c =
    let k = run_of c.args.plan_run.now in
    let f = c.args.follow in
    let test = c.in-Some.test in
    let old = c.loop-depth.marks in
    let new = c.test_by-told.new.marks in
    let part = c.part_from-part.ensures.is in
    let over = above (goal.at.loop-depth-preserved c).In-loop-depth in
    let is : test_of (step_at k c.loop-depth.depth) ≡ Some test = sym c.in-Some.ensures in
    let drops = subst (λ (p : ListPart). Drops (λ j. IsTestedAs k f.rel p test false (p.low + j)) old new) part c.test_by-told.ensures.drops in
    let passed = subst (λ (p : ListPart). c.test_by-told.result ≡ true → (j : ℕ) → is_marked new j ≡ true → IsTestedAs k f.rel p test true (p.low + j)) part c.test_by-told.ensures.passed in (
      among_left k c.requires.run c.args.group c.requires.steps c.args.row.now c.requires.held f c.requires.extends c.args.first c.args.count c.requires.fits c.requires.inside c.loop-depth.depth test over c.loop-depth-test.true is
          (λ d up below. (let t = c.loop-depth.invariant.1 d up below in (t.0, t.1))) old c.loop-depth.invariant.0 new drops,
      told_next k c.args.group f c.args.first c.args.count c.args.row.now c.loop-depth.depth c.loop-depth.told old c.loop-depth.invariant.1 test is c.test_by-told.result c.test_by-told.ensures.before new drops.kept passed,
      λ on. c.loop-depth.invariant.2 (c.test_by-told.ensures.before on),
    )

pub returns-clause-told : goal.returns-clause-told
returns-clause-told c = λ on.
    let k = run_of c.args.plan_run.now in
    let some = some_told c.args.plan_run.now c.args.group (range_told k c.args.group c.requires.steps) (c.loop-depth.invariant.2 on) in
    told_sifted k c.requires.run c.args.group c.requires.steps c.args.row.now c.requires.held c.args.follow c.requires.extends c.args.first c.args.count c.requires.fits c.requires.inside some
    c.loop-depth.marks c.loop-depth.invariant.0 c.loop-depth.depth (let past = c.loop-depth-test.false in omega (arith, past))
    (subst (λ told. AreTold k c.args.group c.args.follow c.args.first c.args.count c.args.row.now c.loop-depth.depth told c.loop-depth.marks) on c.loop-depth.invariant.1)

pub returns-clause-among : goal.returns-clause-among
returns-clause-among c = c.loop-depth.invariant.0
