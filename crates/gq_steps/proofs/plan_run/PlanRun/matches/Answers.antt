use Rattle.std.proofs.Common.{◌≡◌, ◌∙◌, ◌<◌, ℕ, List, length, None, arith, sym, ap, subst}
use Rattle.std.specs.Prelude.{All}
use Rattle.gq_join.specs.Kept.{Held}
use Rattle.gq_plan.specs.Plans.{Plan, Join}
use Rattle.gq_steps.specs.Actions.{action_of}
use Rattle.gq_steps.specs.Pieces.{matches_in}
use Rattle.gq_steps.specs.Levels.{step_at}
use Rattle.gq_steps.specs.Moves.{run_of, steps_in, builds_in}
use Rattle.gq_steps.specs.declared.action.Action.TheVariants as act
use Rattle.gq_steps.proofs.Acting.{acts}
use Rattle.gq_steps.proofs.Joined.{builds_many, can_join, not_none, there}
use Rattle.gq_steps.proofs.Trying.{as_many_steps, low_step}
use Rattle.gq_steps.proofs.plan_run.PlanRun.matches.Goals as goal
use Rattle.gq_steps.proofs.plan_run.PlanRun.matches.Goals.{In-Join}

-- the step joins
joins : (c : In-Join) → (side : Plan) × (keys : List ℕ) × (step_at (run_of c.args.self.now) c.args.group.first ≡ Join side keys)
joins c = acts c.args.self.now c.args.group.first c.args.group.action act.Join c.requires.action c.in-Join.is

build_low : (c : In-Join) → c.args.group.first < length (builds_in c.args.self.now)
build_low c =
    let k = c.args.self.now in
    let low = c.requires.step in
    let many = builds_many k.graph.now k.typed.now (run_of k).steps (builds_in k) c.requires.run.builds in
    let same : length (run_of k).steps ≡ length (steps_in k) = as_many_steps k in
    omega (arith, low, many, same)

pub build_at-requires : goal.build_at-requires
build_at-requires c = build_low (goal.at.build_at-requires c).In-Join

pub matches_of-requires : goal.matches_of-requires
matches_of-requires c =
    let i = (goal.at.matches_of-requires c).In-Join in
    let j = joins i in
    subst (λ (h : Held). All (λ v. v < length c.args.row.now.nodes) h.keys)
    (there (run_of c.args.self.now) c.requires.run c.args.group.first (low_step c.args.self.now c.args.group.first c.requires.step) c.args.row.now c.requires.held j.0 j.1 j.2 None c.in-Some.build.now (build_low i) (sym c.in-Some.ensures))
    (can_join (run_of c.args.self.now) c.requires.run c.args.group.first (low_step c.args.self.now c.args.group.first c.requires.step) c.args.row.now c.requires.held j.0 j.1 j.2).keys

pub unreachable-requires : goal.unreachable-requires
unreachable-requires c =
    let i = (goal.at.unreachable-requires c).In-Join in
    let j = joins i in
    not_none (run_of c.args.self.now) c.requires.run c.args.group.first (low_step c.args.self.now c.args.group.first c.requires.step) c.args.row.now c.requires.held j.0 j.1 j.2 None (build_low i) (sym c.in-None.ensures)

pub returns-in-Some : goal.returns-in-Some
returns-in-Some c = record {
  few = c.matches_of.ensures.few;
  are = λ side keys is. c.matches_of.ensures.value ∙ ap (λ o. matches_in o c.args.row.now) c.in-Some.ensures;
}

pub returns-in_default : goal.returns-in_default
returns-in_default c = record {
  few = omega arith;
  are = λ side keys is. absurd (c.in_default.not-Join (c.requires.action ∙ ap action_of is));
}
