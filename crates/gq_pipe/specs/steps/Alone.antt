-- What a pipeline owes as it starts: all that its plan means, or nothing, where tests that read nothing are not true.
use Rattle.std.specs.Prelude.{ℕ, Bool, true, false}
use Rattle.gq_plan.specs.Plans.{Step, Keep}
use Rattle.gq_search.specs.declared.walker.State.{State}
use Rattle.gq_search.specs.declared.walker.State.TheVariants.{Fresh, Done}

-- a step is no test, or its test is true
abbrev pub is_kept : (ℕ → Bool) → Step → Bool
is_kept test (Keep i) = test i
is_kept test s = true

abbrev pub first_state : Bool → State
first_state true = Fresh
first_state false = Done
