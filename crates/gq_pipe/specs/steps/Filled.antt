-- What a pipeline's chunks make of a build.
use Rattle.std.specs.Prelude.{◌≡◌, ◌≤◌, IsPermutation, List, [], map, length}
use Rattle.gq_join.specs.Kept.{Growing, IsWithin, with_rows}
use Rattle.gq_plan.specs.Meaning.{Partial, nothing}
use Rattle.gq_plan.specs.Plans.{Plan}
use Rattle.gq_plan.specs.declared.assignment.Assignment.{Assignment}
use Rattle.gq_plan.specs.declared.typed.Typed.{Typed}
use Rattle.gq_steps.specs.Given.{given}
use Rattle.gq_pipe.specs.Rest.{Rest}
use Rattle.gq_pipe.specs.Spending.{up_to_most}

-- rows and load numbers that bind what was owed came into a build, and they are not too many
pub record IsFilled (y : Typed) (side : Plan) (owed : List Partial) (old new : Growing) : Type 0 where
  pub rows : List Assignment
  pub pushed : new ≡ with_rows rows old
  pub made : IsPermutation owed (map (λ row. given y row side nothing) rows)
  pub within : IsWithin old.limit (length old.rows) (length rows)

-- a chunk was handed out for each key; there were no more than assignments, and none only where there were none
pub record HasRun (old new : Rest) : Type 0 where
  pub keys : new.chunks ≡ up_to_most (length old.keys)
  pub most : new.chunks ≤ length old.owed
  pub none : new.chunks ≡ 0 → old.owed ≡ []
