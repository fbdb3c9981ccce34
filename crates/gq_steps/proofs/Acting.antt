-- The step of which it is told what it does.
use Rattle.std.proofs.Common.{◌≡◌, ◌∙◌, ℕ, List, true, false, true≢false, refl, sym, ap, subst}
use Rattle.gq_base.specs.declared.direction.Direction.{Direction}
use Rattle.gq_law_groups.specs.Groups.{makes_group}
use Rattle.gq_plan.specs.Halves.{close_half, half_of}
use Rattle.gq_plan.specs.Plans.{Plan, Step, Scan, Extend, Close, Join, Keep, Differ, NoLoop, Single, Meet, step_of}
use Rattle.gq_plan.specs.declared.plan.Step as code
use Rattle.gq_plan.specs.declared.halves.Half.{Half}
use Rattle.gq_plan.specs.declared.halves.Half.TheVariants.{Whole, First, Second}
use Rattle.gq_steps.specs.Actions.{action_of, followed, half_action, step_by}
use Rattle.gq_steps.specs.Levels.{step_at}
use Rattle.gq_steps.specs.Moves.{run_of}
use Rattle.gq_steps.specs.declared.action.Action.{Action}
use Rattle.gq_steps.specs.declared.action.Action.TheVariants as act
use Rattle.gq_plan.specs.declared.follow.Follow.{Follow}
use Rattle.gq_steps.specs.declared.plan_run.PlanRun.{PlanRun}

-- as much of a column close as runs
pub half_acts : (h : Half) (x from to : ℕ) (way : Direction) → action_of (close_half h x from to way) ≡ half_action h (followed x from to way)
half_acts Whole x from to way = refl
half_acts First x from to way = refl
half_acts Second x from to way = refl

-- a step of the program, as much of it as runs
pub acted : (h : Half) (x s : code.Step) (t : Step) → x ≡ s → step_of s ≡ t → action_of (half_of h (step_of x)) ≡ action_of (half_of h t)
acted h x s t is same = ap (λ y. action_of (half_of h (step_of y))) is ∙ ap (λ y. action_of (half_of h y)) same

-- the step that does what was asked for does that
pub acts_by : (a : Action) (s : Step) → action_of (step_by a s) ≡ a
acts_by (act.Scan v) s = refl
acts_by (act.List f) s = refl
acts_by (act.Column f) s = refl
acts_by (act.Close f) s = refl
acts_by (act.ColumnClose f) s = refl
acts_by (act.Take f) s = refl
acts_by (act.Meet f) s = refl
acts_by act.Join s = refl
acts_by (act.Test i) s = refl
acts_by (act.Differ p) s = refl
acts_by (act.NoLoop x) s = refl

-- a step, as much of it as runs, is the step that does what it does
close_by : (h : Half) (x from to : ℕ) (way : Direction) → step_by (action_of (close_half h x from to way)) (Close true x from to way) ≡ close_half h x from to way
close_by Whole x from to way = refl
close_by First x from to way = refl
close_by Second x from to way = refl

pub half_by : (h : Half) (s : Step) → step_by (action_of (half_of h s)) s ≡ half_of h s
half_by h (Scan v) = refl
half_by h (Extend false x from to way) = refl
half_by h (Extend true x from to way) = refl
half_by h (Close false x from to way) = refl
half_by h (Close true x from to way) = close_by h x from to way
half_by h (Join side keys) = refl
half_by h (Keep i) = refl
half_by h (Differ p) = refl
half_by h (NoLoop x) = refl
half_by h (Single x from to way) = refl
half_by h (Meet x from to way) = refl

-- a step does this
abbrev pub Does : Action → Step → Type 0
Does (act.Scan v) s = s ≡ Scan v
Does (act.List f) s = s ≡ Extend false f.rel f.from f.to f.direction
Does (act.Column f) s = s ≡ Extend true f.rel f.from f.to f.direction
Does (act.Close f) s = s ≡ Close false f.rel f.from f.to f.direction
Does (act.ColumnClose f) s = s ≡ Close true f.rel f.from f.to f.direction
Does (act.Take f) s = s ≡ Single f.rel f.from f.to f.direction
Does (act.Meet f) s = s ≡ Meet f.rel f.from f.to f.direction
Does act.Join s = (side : Plan) × (keys : List ℕ) × (s ≡ Join side keys)
Does (act.Test i) s = s ≡ Keep i
Does (act.Differ p) s = s ≡ Differ p
Does (act.NoLoop x) s = s ≡ NoLoop x

does : (s : Step) → Does (action_of s) s
does (Scan v) = refl
does (Extend false x from to way) = refl
does (Extend true x from to way) = refl
does (Close false x from to way) = refl
does (Close true x from to way) = refl
does (Join side keys) = (side, keys, refl)
does (Keep i) = refl
does (Differ p) = refl
does (NoLoop x) = refl
does (Single x from to way) = refl
does (Meet x from to way) = refl

pub told : (s : Step) (a : Action) → action_of s ≡ a → Does a s
told s a is = subst (λ b. Does b s) is (does s)

-- so the step at a depth, where it was asked what it does
pub acts : (k : PlanRun) (d : ℕ) (r a : Action) → r ≡ action_of (step_at (run_of k) d) → r ≡ a → Does a (step_at (run_of k) d)
acts k d r a is same = told (step_at (run_of k) d) a (sym is ∙ same)

-- what a step does that makes a group
grouped : (s : Step) → makes_group s ≡ true → ((v : ℕ) → action_of s ≡ act.Scan v → ⊥) → ((f : Follow) → action_of s ≡ act.List f → ⊥) → ((f : Follow) → action_of s ≡ act.Close f → ⊥) → (action_of s ≡ act.Join → ⊥) → ⊥
grouped (Scan v) makes scan list close join = scan v refl
grouped (Extend false x from to way) makes scan list close join = list (followed x from to way) refl
grouped (Extend true x from to way) makes scan list close join = true≢false (sym makes)
grouped (Close false x from to way) makes scan list close join = close (followed x from to way) refl
grouped (Close true x from to way) makes scan list close join = true≢false (sym makes)
grouped (Join side keys) makes scan list close join = join refl
grouped (Keep i) makes scan list close join = true≢false (sym makes)
grouped (Differ p) makes scan list close join = true≢false (sym makes)
grouped (NoLoop x) makes scan list close join = true≢false (sym makes)
grouped (Single x from to way) makes scan list close join = true≢false (sym makes)
grouped (Meet x from to way) makes scan list close join = true≢false (sym makes)

pub no_other : (k : PlanRun) (d : ℕ) (r : Action) → r ≡ action_of (step_at (run_of k) d) → makes_group (step_at (run_of k) d) ≡ true → ((v : ℕ) → r ≡ act.Scan v → ⊥) → ((f : Follow) → r ≡ act.List f → ⊥) → ((f : Follow) → r ≡ act.Close f → ⊥)
    → (r ≡ act.Join → ⊥) → ⊥
no_other k d r is makes scan list close join = grouped (step_at (run_of k) d) makes (λ v e. scan v (is ∙ e)) (λ f e. list f (is ∙ e)) (λ f e. close f (is ∙ e)) (λ e. join (is ∙ e))
