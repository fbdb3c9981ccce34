-- What callers see of the builds of a plan.
use Rattle.std.specs.Prelude.{Option, List}
use Rattle.gq_join.specs.Kept.{Held}
use Rattle.gq_homes.specs.declared.spent.Spent.{Spent}

-- for each step its build, if it is a join, and what the pipelines spent that filled them
pub record Made : Type 0 where
  pub levels : List (Option Held)
  pub spent : List Spent
