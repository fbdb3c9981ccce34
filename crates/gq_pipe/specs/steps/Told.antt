-- Steps that close between nodes, and places of which they make nothing.
use Rattle.std.specs.Prelude.{◌≡◌, ◌⊎◌, ℕ, ◌<◌, ◌^◌, false, true, Some, List, length, slice_get, slice_index}
use Rattle.gq_base.specs.Directions.{opposite}
use Rattle.gq_base.specs.Plain.{Graph}
use Rattle.gq_near.specs.Rows.{RowsAhead, stands_in}
use Rattle.gq_plan.specs.Plans.{Step, Scan, Extend, Close}
use Rattle.gq_plan.specs.Rows.{rel_table}
use Rattle.gq_plan.specs.declared.assignment.Assignment.{Assignment}
use Rattle.gq_plan.specs.declared.typed.Typed.{Typed}
use Rattle.gq_steps.specs.Groups.{group_at}
use Rattle.gq_steps.specs.Levels.{Run, step_at}
use Rattle.gq_steps.specs.declared.group_steps.GroupSteps.{GroupSteps}
use Rattle.gq_plan.specs.declared.follow.Follow.{Follow}
use Rattle.gq_store.specs.Neighbours.{near_rows, neighbours}

-- a step closes a list with these relationships, one way or the other
abbrev pub Closes : Follow → Step → Type 0
Closes f s = (s ≡ Close false f.rel f.from f.to f.direction) ⊎ (s ≡ Close false f.rel f.to f.from (opposite f.direction))

-- a step binds a node variable alone, or with the relationship that leads to it
abbrev pub BindsNode : ℕ → Step → Type 0
BindsNode v (Scan w) = w ≡ v
BindsNode v (Extend column x from to direction) = to ≡ v
BindsNode v s = ⊥

-- a flat group before one binds a node variable
pub record IsBoundBefore (c : Run) (ss : List GroupSteps) (depth v : ℕ) : Type 0 where
  pub group : ℕ
  pub before : group < depth
  pub flat : (group_at ss group).flat ≡ true
  pub binds : BindsNode v (step_at c (group_at ss group).first)

-- a place of a list leads to a row to which none of these relationships leads from the other node
pub record HasNothing (g : Graph) (y : Typed) (row : Assignment) (f : Follow) (other : ℕ) (ahead : RowsAhead) (place : ℕ) : Type 0 where
  pub item : ℕ
  pub there : slice_get (neighbours g (rel_table y f.rel) f.direction (slice_index row.nodes f.from)) place ≡ Some item
  pub inside : item < near_rows g (rel_table y f.rel) (opposite f.direction)
  pub few : length (neighbours g (rel_table y f.rel) f.direction (slice_index row.nodes f.from)) < 2 ^ 32
  pub off : stands_in (neighbours ahead.graph ahead.table ahead.direction (slice_index row.nodes other)) item ≡ false
