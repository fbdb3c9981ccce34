-- Places of a list that those of a group's steps keep which rows decide.
use Rattle.std.specs.Prelude.{◌≡◌, ℕ, ◌+◌, ◌<◌, ◌==◌, Bool, true, not, nat_lt, List, length, slice_get, slice_index, slice_set}
use Rattle.gq_bits.specs.Places.{is_marked}
use Rattle.gq_bits.specs.declared.TheConstants.{VECTOR}
use Rattle.gq_plan.specs.Conditions.{passes}
use Rattle.gq_plan.specs.Meaning.{holds}
use Rattle.gq_plan.specs.Plans.{Step, Keep, NoLoop}
use Rattle.gq_plan.specs.Rows.{as_read, rel_table}
use Rattle.gq_plan.specs.declared.assignment.Assignment.{Assignment}
use Rattle.gq_steps.specs.Levels.{Run, step_at}
use Rattle.gq_steps.specs.declared.group_steps.GroupSteps.{GroupSteps}
use Rattle.gq_plan.specs.declared.follow.Follow.{Follow}
use Rattle.gq_store.specs.Neighbours.{neighbours}

-- the row at a place of the list that is followed
abbrev pub far_row : Run → Follow → Assignment → ℕ → ℕ
far_row c f row place = slice_index (neighbours c.graph (rel_table c.typed f.rel) f.direction (slice_index row.nodes f.from)) place

-- an assignment that has the row at a place of the list
abbrev pub with_far : Run → Follow → Assignment → ℕ → Assignment
with_far c f row place = record { nodes = slice_set row.nodes f.to (far_row c f row place); rels = row.rels }

-- a step keeps a place by its row: its condition is true there, or it is no loop
abbrev pub rows_keep : Run → Follow → Assignment → ℕ → Step → Bool
rows_keep c f row place (Keep i) = holds (passes c.graph (as_read c.typed (with_far c f row place))) (slice_get c.typed.tests i)
rows_keep c f row place (NoLoop x) = not (far_row c f row place == slice_index row.nodes f.from)
rows_keep c f row place s = true

-- of the places to start with, those are marked that each of the steps between two keeps
pub record AreKept (start : ℕ → Bool) (keeps : ℕ → ℕ → Bool) (low high : ℕ) (marks : List Bool) : Type 0 where
  pub on : (j : ℕ) → is_marked marks j ≡ true → (start j ≡ true) × ((d : ℕ) → low < d → d < high → keeps d j ≡ true)
  pub off : (j : ℕ) → start j ≡ true → ((d : ℕ) → low < d → d < high → keeps d j ≡ true) → is_marked marks j ≡ true

-- the step at a depth keeps a place behind a first one by its row
abbrev pub by_rows : Run → Follow → ℕ → Assignment → ℕ → ℕ → Bool
by_rows c f first row d j = rows_keep c f row (first + j) (step_at c d)

-- of so many places of a list, from one on, those are marked that the group's steps keep by rows
pub record IsTested (c : Run) (group : GroupSteps) (f : Follow) (first count : ℕ) (row : Assignment) (marks : List Bool) : Type 0 where
  pub whole : length marks ≡ VECTOR
  pub kept : AreKept (λ j. nat_lt j count) (by_rows c f first row) group.first group.end marks
