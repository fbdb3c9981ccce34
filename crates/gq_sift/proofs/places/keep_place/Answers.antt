use Rattle.std.proofs.Common.{◌≡◌, ◌≢◌, ◌+◌, inl, inr, suc, subst, arith}
use Rattle.std.proofs.lemmas.Bool.{cases_eq}
use Rattle.gq_steps.specs.Moves.{run_of, IsTried}
use Rattle.gq_steps.proofs.Going.{IsGoing, begins, ends, tried_made, tried_missed, tried_past}
use Rattle.gq_sift.proofs.Matching.{going_matches}
use Rattle.gq_sift.proofs.places.keep_place.Goals as goal
use Rattle.gq_sift.proofs.places.keep_place.Goals.{then-step-group, else-step-group}

pub loop-step-init : goal.loop-step-init
loop-step-init c = begins (run_of c.args.plan_run.now) c.args.group c.requires.steps c.args.place c.args.row.now c.requires.held

pub try_step-requires-clause-held : goal.try_step-requires-clause-held
try_step-requires-clause-held c = c.loop-step.invariant.held

pub try_step-requires-clause-matches : goal.try_step-requires-clause-matches
try_step-requires-clause-matches c =
    going_matches (run_of c.args.plan_run.now) c.args.group c.requires.steps c.args.place c.args.row.now c.loop-step.step c.loop-step.row c.loop-step.invariant c.loop-step-test.true c.args.matches.now c.requires.matches

pub loop-step-preserved : goal.loop-step-preserved
loop-step-preserved c =
    let one : c.loop-step.step ≡ c.args.group.first → c.if-step-group.at ≡ c.args.place = λ e. elim c.if-step-group.branch [ then-step-group w ↦ w.at-is | else-step-group w ↦ absurd (w.if-step-group.false e) ] in
    let other : c.loop-step.step ≢ c.args.group.first → c.if-step-group.at ≡ 0 = λ e. elim c.if-step-group.branch [ then-step-group w ↦ absurd (e w.if-step-group.true) | else-step-group w ↦ w.at-is ] in
    let next : suc c.loop-step.step ≡ c.loop-step.step + 1 = omega arith in
    subst (λ d. IsGoing (run_of c.args.plan_run.now) c.args.group c.args.place c.args.row.now d c.try_step.new.row) next
    (tried_made (run_of c.args.plan_run.now) c.args.group c.requires.steps c.args.place c.args.row.now c.loop-step.step c.if-step-group.at c.loop-step.row c.try_step.new.row c.loop-step.invariant c.loop-step-test.true one other
    (cases_eq c.loop-step.step c.args.group.first) (subst (IsTried (run_of c.args.plan_run.now) c.loop-step.step c.if-step-group.at c.loop-step.row c.try_step.new.row) c.in-Made.is c.try_step.ensures))

pub returns-in-Missed : goal.returns-in-Missed
returns-in-Missed c =
    let one : c.loop-step.step ≡ c.args.group.first → c.if-step-group.at ≡ c.args.place = λ e. elim c.if-step-group.branch [ then-step-group w ↦ w.at-is | else-step-group w ↦ absurd (w.if-step-group.false e) ] in
    let other : c.loop-step.step ≢ c.args.group.first → c.if-step-group.at ≡ 0 = λ e. elim c.if-step-group.branch [ then-step-group w ↦ absurd (e w.if-step-group.true) | else-step-group w ↦ w.at-is ] in
    elim c.in-Missed.is [
      | inl missed ↦ tried_missed (run_of c.args.plan_run.now) c.args.group c.requires.steps c.args.place c.args.row.now c.loop-step.step c.if-step-group.at c.loop-step.row c.try_step.new.row c.loop-step.invariant c.loop-step-test.true one other
          (cases_eq c.loop-step.step c.args.group.first) (subst (IsTried (run_of c.args.plan_run.now) c.loop-step.step c.if-step-group.at c.loop-step.row c.try_step.new.row) missed c.try_step.ensures)
      | inr past ↦ tried_past (run_of c.args.plan_run.now) c.args.group c.requires.steps c.args.place c.args.row.now c.loop-step.step c.if-step-group.at c.loop-step.row c.try_step.new.row c.loop-step.invariant c.loop-step-test.true one other
          (cases_eq c.loop-step.step c.args.group.first) (subst (IsTried (run_of c.args.plan_run.now) c.loop-step.step c.if-step-group.at c.loop-step.row c.try_step.new.row) past c.try_step.ensures)
    ]

pub returns : goal.returns
returns c = ends (run_of c.args.plan_run.now) c.args.group c.requires.steps c.args.place c.args.row.now c.loop-step.row c.loop-step.step c.loop-step.invariant c.loop-step-test.false
