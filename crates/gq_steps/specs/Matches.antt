-- The places of a join: the rows of its build with the key that stands.
use Rattle.std.specs.Prelude.{◌≡◌, ℕ, ◌^◌, ◌<◌, None, List, length, slice_index_or}
use Rattle.gq_plan.specs.Plans.{Plan, Join}
use Rattle.gq_plan.specs.declared.assignment.Assignment.{Assignment}
use Rattle.gq_steps.specs.Pieces.{matches_in}
use Rattle.gq_steps.specs.Levels.{Run, step_at}

-- they are those of the step at a depth, if it is a join
pub record AreMatches (c : Run) (d : ℕ) (row : Assignment) (matches : List ℕ) : Type 0 where
  pub few : length matches < 2 ^ 32
  pub are : (side : Plan) (keys : List ℕ) → step_at c d ≡ Join side keys → matches ≡ matches_in (slice_index_or c.builds d None) row
