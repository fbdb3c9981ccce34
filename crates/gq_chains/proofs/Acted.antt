-- What a step is that asks for something, and how it is told.
use Rattle.std.proofs.Common.{◌≡◌, inl, inr, ℕ, true, false, Option, Some, None, refl, ap}
use Rattle.gq_plan.specs.Plans.{Step, Scan, Extend, Close, Join, Keep, Differ, NoLoop, Single, Meet}
use Rattle.gq_plan.specs.declared.follow.Follow.{Follow}
use Rattle.gq_chains.specs.steps.Extends.{Extends, Leads}
use Rattle.gq_steps.specs.Actions.{action_of}
use Rattle.gq_steps.specs.Levels.{step_at}
use Rattle.gq_steps.specs.Moves.{run_of}
use Rattle.gq_steps.specs.Tests.{pair_of, test_of}
use Rattle.gq_steps.specs.declared.action.Action.{Action}
use Rattle.gq_steps.specs.declared.action.Action.TheVariants as act
use Rattle.gq_steps.specs.declared.plan_run.PlanRun.{PlanRun}
use Rattle.gq_steps.proofs.Acting.{acts}

pub keep_of : (s : Step) (i : ℕ) → test_of s ≡ Some i → s ≡ Keep i
keep_of (Keep j) i is = let same : j ≡ i = cc in ap Keep same
keep_of (Scan v) i is = cc
keep_of (Extend column x from to way) i is = cc
keep_of (Close column x from to way) i is = cc
keep_of (Join side keys) i is = cc
keep_of (Differ p) i is = cc
keep_of (NoLoop x) i is = cc
keep_of (Single x from to way) i is = cc
keep_of (Meet x from to way) i is = cc

pub differ_of : (s : Step) (i : ℕ) → pair_of s ≡ Some i → s ≡ Differ i
differ_of (Differ j) i is = let same : j ≡ i = cc in ap Differ same
differ_of (Scan v) i is = cc
differ_of (Extend column x from to way) i is = cc
differ_of (Close column x from to way) i is = cc
differ_of (Join side keys) i is = cc
differ_of (Keep t) i is = cc
differ_of (NoLoop x) i is = cc
differ_of (Single x from to way) i is = cc
differ_of (Meet x from to way) i is = cc

-- a step that does another thing asks for none
pub no_test : (s : Step) → ((i : ℕ) → action_of s ≡ act.Test i → ⊥) → test_of s ≡ None
no_test s none = go (test_of s) refl
  where
    go : (o : Option ℕ) → test_of s ≡ o → test_of s ≡ None
    go None is = is
    go (Some i) is = absurd (none i (ap action_of (keep_of s i is)))

pub no_pair : (s : Step) → ((i : ℕ) → action_of s ≡ act.Differ i → ⊥) → pair_of s ≡ None
no_pair s none = go (pair_of s) refl
  where
    go : (o : Option ℕ) → pair_of s ≡ o → pair_of s ≡ None
    go None is = is
    go (Some i) is = absurd (none i (ap action_of (differ_of s i is)))

-- the step at a depth follows a relationship so, where it is told what it does
pub extends_by : (k : PlanRun) (d : ℕ) (a : Action) (f : Follow) → a ≡ action_of (step_at (run_of k) d) → Leads a f → Extends (run_of k) d f
extends_by k d a f is (inl list) = (false, acts k d a (act.List f) is list)
extends_by k d a f is (inr column) = (true, acts k d a (act.Column f) is column)
