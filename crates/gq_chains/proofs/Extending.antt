-- Steps that follow a relationship to a node that was not bound.
use Rattle.std.proofs.Common.{◌≡◌, ℕ, Bool, Option, Some, None, ap}
use Rattle.std.specs.Prelude.{is_some}
use Rattle.std.proofs.lemmas.Bool.{false≢true}
use Rattle.gq_plan.specs.Plans.{Step, Scan, Extend, Close, Join, Keep, Differ, NoLoop, Single, Meet}
use Rattle.gq_plan.specs.declared.follow.Follow.{Follow}
use Rattle.gq_chains.specs.steps.Extends.{Extends}
use Rattle.gq_steps.specs.Levels.{Run, step_at}
use Rattle.gq_steps.specs.Tests.{follow_of}

-- the step that follows a relationship so
abbrev with_column : Bool → Option Follow → Step
with_column column None = Keep 0
with_column column (Some f) = Extend column f.rel f.from f.to f.direction

none_some : (f : Follow) → None ≡ Some f → ⊥
none_some f e = false≢true (ap is_some e)

pub extend_of : (s : Step) (f : Follow) → follow_of s ≡ Some f → (column : Bool) × (s ≡ Extend column f.rel f.from f.to f.direction)
extend_of (Extend column x from to way) f e = (column, ap (λ (o : Option Follow). with_column column o) e)
extend_of (Scan v) f e = absurd (none_some f e)
extend_of (Close column x from to way) f e = absurd (none_some f e)
extend_of (Join side keys) f e = absurd (none_some f e)
extend_of (Keep i) f e = absurd (none_some f e)
extend_of (Differ p) f e = absurd (none_some f e)
extend_of (NoLoop x) f e = absurd (none_some f e)
extend_of (Single x from to way) f e = absurd (none_some f e)
extend_of (Meet x from to way) f e = absurd (none_some f e)

pub extends_as : (c : Run) (d : ℕ) (f : Follow) → follow_of (step_at c d) ≡ Some f → Extends c d f
extends_as c d f is = extend_of (step_at c d) f is
