-- Steps that follow a relationship to a node that was not bound.
use Rattle.std.specs.Prelude.{◌≡◌, ◌⊎◌, ℕ, Bool}
use Rattle.gq_plan.specs.Plans.{Extend}
use Rattle.gq_plan.specs.declared.follow.Follow.{Follow}
use Rattle.gq_steps.specs.Levels.{Run, step_at}
use Rattle.gq_steps.specs.declared.action.Action.{Action}
use Rattle.gq_steps.specs.declared.action.Action.TheVariants as act

-- the step at a depth follows a relationship so to a node that was not bound
abbrev pub Extends : Run → ℕ → Follow → Type 0
Extends c d f = (column : Bool) × (step_at c d ≡ Extend column f.rel f.from f.to f.direction)

-- what is done follows a relationship so
abbrev pub Leads : Action → Follow → Type 0
Leads a f = (a ≡ act.List f) ⊎ (a ≡ act.Column f)
