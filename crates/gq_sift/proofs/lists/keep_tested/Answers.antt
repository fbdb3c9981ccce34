use Rattle.std.proofs.Common.{◌≡◌, ◌∙◌, ◌&&◌, ℕ, Option, Some, None, ap}
use Rattle.std.specs.Prelude.{slice_index}
use Rattle.gq_bits.specs.Places.{is_marked}
use Rattle.gq_plan.specs.Plans.{Keep, NoLoop}
use Rattle.gq_steps.specs.Levels.{step_at}
use Rattle.gq_steps.specs.Moves.{run_of}
use Rattle.gq_steps.specs.Tests.{loop_of, pair_of, test_of}
use Rattle.gq_steps.specs.declared.action.Action.TheVariants as act
use Rattle.gq_steps.specs.steps.Outcomes.{passes_at, with_row}
use Rattle.gq_steps.proofs.Acting.{acts}
use Rattle.gq_chains.proofs.Acted.{no_test}
use Rattle.gq_sift.proofs.Judged.{no_loop}
use Rattle.gq_sift.proofs.lists.keep_tested.Goals as goal
use Rattle.gq_sift.proofs.lists.keep_tested.Goals.{In-Test, In-NoLoop}

-- what asks for one thing asks for no other
apart : (o : Option ℕ) (i : ℕ) → o ≡ None → o ≡ Some i → ⊥
apart None i none some = cc some
apart (Some j) i none some = cc none

same : (i j : ℕ) (o : Option ℕ) → o ≡ Some i → o ≡ Some j → i ≡ j
same i j o one two = cc

keep : (c : In-Test) → step_at (run_of c.args.plan_run.now) c.args.depth ≡ Keep c.in-Test.test
keep c = acts c.args.plan_run.now c.args.depth c.action.result (act.Test c.in-Test.test) c.action.ensures c.in-Test.is

loops : (c : In-NoLoop) → step_at (run_of c.args.plan_run.now) c.args.depth ≡ NoLoop c.in-NoLoop._rel
loops c = acts c.args.plan_run.now c.args.depth c.action.result (act.NoLoop c.in-NoLoop._rel) c.action.ensures c.in-NoLoop.is

pub returns-in-Test-clause-tests : goal.returns-in-Test-clause-tests
returns-in-Test-clause-tests c = λ i asks j.
    let k = c.args.plan_run.now in
    let step = keep (goal.at.returns-in-Test-clause-tests c).In-Test in
    let e : c.in-Test.test ≡ i = same c.in-Test.test i (test_of (step_at (run_of k) c.args.depth)) (ap test_of step) asks in
    c.keep_test.ensures.kept j ∙ ap (λ n. is_marked c.args.marks.now j && passes_at k.graph.now k.typed.now (with_row c.args.follow.to (slice_index c.args.ids.now j) c.args.row.now) n) e

pub returns-in-Test-clause-pairs : goal.returns-in-Test-clause-pairs
returns-in-Test-clause-pairs c = λ number asks.
    absurd (apart (pair_of (step_at (run_of c.args.plan_run.now) c.args.depth)) number (ap pair_of (keep (goal.at.returns-in-Test-clause-pairs c).In-Test)) asks)

pub returns-in-Test-clause-loops : goal.returns-in-Test-clause-loops
returns-in-Test-clause-loops c = λ asks.
    absurd (apart (loop_of (step_at (run_of c.args.plan_run.now) c.args.depth)) c.args.follow.rel (ap loop_of (keep (goal.at.returns-in-Test-clause-loops c).In-Test)) asks)

pub returns-in-NoLoop-clause-tests : goal.returns-in-NoLoop-clause-tests
returns-in-NoLoop-clause-tests c = λ i asks.
    absurd (apart (test_of (step_at (run_of c.args.plan_run.now) c.args.depth)) i (ap test_of (loops (goal.at.returns-in-NoLoop-clause-tests c).In-NoLoop)) asks)

pub returns-in-NoLoop-clause-pairs : goal.returns-in-NoLoop-clause-pairs
returns-in-NoLoop-clause-pairs c = λ number asks.
    absurd (apart (pair_of (step_at (run_of c.args.plan_run.now) c.args.depth)) number (ap pair_of (loops (goal.at.returns-in-NoLoop-clause-pairs c).In-NoLoop)) asks)

pub returns-in_default-clause-tests : goal.returns-in_default-clause-tests
returns-in_default-clause-tests c = λ i asks.
    absurd (apart (test_of (step_at (run_of c.args.plan_run.now) c.args.depth)) i (no_test (step_at (run_of c.args.plan_run.now) c.args.depth) (λ n is. c.in_default.not-Test n (c.action.ensures ∙ is))) asks)

pub returns-in_default-clause-loops : goal.returns-in_default-clause-loops
returns-in_default-clause-loops c = λ asks.
    absurd (apart (loop_of (step_at (run_of c.args.plan_run.now) c.args.depth)) c.args.follow.rel (no_loop (step_at (run_of c.args.plan_run.now) c.args.depth) (λ n is. c.in_default.not-NoLoop n (c.action.ensures ∙ is))) asks)
