-- When a step can be tried, and what a try does.
use Rattle.std.specs.Prelude.{◌≡◌, ℕ, Option, suc, ◌+◌, ◌^◌, ◌<◌, true, List, [], ◌∷◌, drop, length, map, slice_index}
use Rattle.std.specs.Option.{option_copied}
use Rattle.gq_base.specs.Valid.{is_valid, row_count}
use Rattle.gq_filter.specs.RowTests.{conditions_of}
use Rattle.gq_join.specs.Kept.{Held}
use Rattle.gq_plan.specs.Halves.{Runs}
use Rattle.gq_plan.specs.Known.{Known}
use Rattle.gq_plan.specs.Meaning.{Partial}
use Rattle.gq_plan.specs.Soundness.{IsSound}
use Rattle.gq_plan.specs.Plans.{Step, steps, step_of}
use Rattle.gq_plan.specs.declared.plan.Step as code
use Rattle.gq_steps.specs.Actions.{step_by}
use Rattle.gq_steps.specs.Built.{AreBuilds}
use Rattle.gq_steps.specs.Levels.{Run, step_at, built_at, taken, known, before}
use Rattle.gq_plan.specs.Rows.{node_table}
use Rattle.gq_steps.specs.Tries.{tries}
use Rattle.gq_plan.specs.declared.assignment.Assignment.{Assignment}
use Rattle.gq_steps.specs.declared.plan_run.PlanRun.{PlanRun}
use Rattle.gq_steps.specs.declared.plan_run.RunStep.{RunStep}
use Rattle.gq_steps.specs.declared.plan_run.Tried.{Tried}
use Rattle.gq_steps.specs.declared.plan_run.Tried.TheVariants.{Past, Missed, Made}

-- a step as it runs: what it does was found as the pipeline started
abbrev pub run_step : RunStep → Step
run_step r = step_by r.action (step_of r.step.now)

abbrev pub run_steps : List RunStep → List Step
run_steps rs = map run_step rs

-- the steps of a plan in the order in which they run, and their builds
abbrev pub steps_in : PlanRun → List code.Step
steps_in c = map (λ (r : RunStep). r.step.now) c.steps.items

abbrev pub builds_in : PlanRun → List (Option Held)
builds_in c = map option_copied c.builds.items

abbrev pub run_of : PlanRun → Run
run_of c = record { graph = c.graph.now; typed = c.typed.now; steps = run_steps c.steps.items; builds = builds_in c; tests = c.tests.items }

-- the graph is valid, the alternative is sound for it, the steps fit the alternative as they run and have their builds, and the tests are the alternative's
pub record IsRun (c : Run) : Type 0 where
  pub valid : is_valid c.graph ≡ true
  pub sound : IsSound c.graph.catalog c.typed
  pub fits : Runs c.graph.catalog c.typed (steps c.steps)
  pub builds : AreBuilds c.graph c.typed (steps c.steps) c.builds
  pub tests : c.tests ≡ conditions_of c.graph c.typed

-- what is bound are variables of the alternative, and node variables have rows of their tables
pub record IsHeld (c : Run) (row : Assignment) (k : Known) : Type 0 where
  pub node_count : length row.nodes ≡ length c.typed.nodes
  pub rel_count : length row.rels ≡ length c.typed.rels
  pub nodes : (v : ℕ) → k.nodes v ≡ true → v < length c.typed.nodes
  pub rels : (x : ℕ) → k.rels x ≡ true → x < length c.typed.rels
  pub rows : (v : ℕ) → k.nodes v ≡ true → slice_index row.nodes v < row_count c.graph.nodes (node_table c.typed v)

-- they give what is bound the same rows and load numbers
pub record IsAlike (k : Known) (old new : Assignment) : Type 0 where
  pub nodes : (v : ℕ) → k.nodes v ≡ true → slice_index new.nodes v ≡ slice_index old.nodes v
  pub rels : (x : ℕ) → k.rels x ≡ true → slice_index new.rels x ≡ slice_index old.rels x

-- what the step at a depth makes from a place on
abbrev pub to_try : Run → Assignment → ℕ → ℕ → List (List Partial)
to_try c row d place = drop place (tries c.graph c.typed (built_at c d) (step_at c d) (before c row d))

-- there is an assignment at the place, and the rows and load numbers have what the step binds there
pub record IsMade (c : Run) (d place : ℕ) (old new : Assignment) : Type 0 where
  pub held : IsHeld c new (known c (suc d))
  pub alike : IsAlike (known c d) old new
  pub made : to_try c old d place ≡ (taken c.typed new (step_at c d) (before c old d) ∷ []) ∷ to_try c old d (place + 1)
  pub few : place + 1 < 2 ^ 32

-- there is none
pub record IsMissed (c : Run) (d place : ℕ) (old new : Assignment) : Type 0 where
  pub same : new ≡ old
  pub missed : to_try c old d place ≡ [] ∷ to_try c old d (place + 1)
  pub few : place + 1 < 2 ^ 32

-- there is no such place
pub record IsPast (c : Run) (d place : ℕ) (old new : Assignment) : Type 0 where
  pub same : new ≡ old
  pub past : to_try c old d place ≡ []

abbrev pub IsTried : Run → ℕ → ℕ → Assignment → Assignment → Tried → Type 0
IsTried c d place old new Past = IsPast c d place old new
IsTried c d place old new Missed = IsMissed c d place old new
IsTried c d place old new Made = IsMade c d place old new
