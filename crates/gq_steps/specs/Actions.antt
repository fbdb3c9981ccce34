-- What a step does, told apart by kinds.
use Rattle.std.specs.Prelude.{ℕ, true, false, List, []}
use Rattle.gq_plan.specs.Plans.{Plan, Done, Step, Scan, Extend, Close, Join, Keep, Differ, NoLoop, Single, Meet}
use Rattle.gq_plan.specs.declared.halves.Half.{Half}
use Rattle.gq_plan.specs.declared.halves.Half.TheVariants.{Whole, First, Second}
use Rattle.gq_base.specs.declared.direction.Direction.{Direction}
use Rattle.gq_steps.specs.declared.action.Action.{Action}
use Rattle.gq_steps.specs.declared.action.Action.TheVariants as act
use Rattle.gq_plan.specs.declared.follow.Follow.{Follow}

-- how a relationship variable is followed between node variables
abbrev pub followed : ℕ → ℕ → ℕ → Direction → Follow
followed x from to way = record { rel = x; from = from; to = to; direction = way }

abbrev pub action_of : Step → Action
action_of (Scan v) = act.Scan v
action_of (Extend false x from to way) = act.List (followed x from to way)
action_of (Extend true x from to way) = act.Column (followed x from to way)
action_of (Close false x from to way) = act.Close (followed x from to way)
action_of (Close true x from to way) = act.ColumnClose (followed x from to way)
action_of (Join side keys) = act.Join
action_of (Keep i) = act.Test i
action_of (Differ p) = act.Differ p
action_of (NoLoop x) = act.NoLoop x
action_of (Single x from to way) = act.Take (followed x from to way)
action_of (Meet x from to way) = act.Meet (followed x from to way)

-- so as much of a column close as runs
abbrev pub half_action : Half → Follow → Action
half_action Whole f = act.ColumnClose f
half_action First f = act.Take f
half_action Second f = act.Meet f

-- the side plan and the keys of a step, if it is a join
abbrev pub side_of : Step → Plan
side_of (Join side keys) = side
side_of s = Done

abbrev pub keys_of : Step → List ℕ
keys_of (Join side keys) = keys
keys_of s = []

-- the step that does this; a join has the side plan and the keys of a step that is told
abbrev pub step_by : Action → Step → Step
step_by (act.Scan v) s = Scan v
step_by (act.List f) s = Extend false f.rel f.from f.to f.direction
step_by (act.Column f) s = Extend true f.rel f.from f.to f.direction
step_by (act.Close f) s = Close false f.rel f.from f.to f.direction
step_by (act.ColumnClose f) s = Close true f.rel f.from f.to f.direction
step_by (act.Take f) s = Single f.rel f.from f.to f.direction
step_by (act.Meet f) s = Meet f.rel f.from f.to f.direction
step_by act.Join s = Join (side_of s) (keys_of s)
step_by (act.Test i) s = Keep i
step_by (act.Differ p) s = Differ p
step_by (act.NoLoop x) s = NoLoop x
