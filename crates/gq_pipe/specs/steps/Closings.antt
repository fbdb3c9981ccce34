-- What a group that follows a list is told by a later one that closes at its node.
use Rattle.std.specs.Prelude.{◌≡◌, ℕ, ◌<◌, false, List, length}
use Rattle.gq_plan.specs.Plans.{Extend}
use Rattle.gq_plan.specs.Rows.{rel_table}
use Rattle.gq_steps.specs.Groups.{group_at}
use Rattle.gq_steps.specs.Levels.{Run, step_at}
use Rattle.gq_steps.specs.declared.group_steps.GroupSteps.{GroupSteps}
use Rattle.gq_plan.specs.declared.follow.Follow.{Follow}
use Rattle.gq_pipe.specs.declared.closing.Closing.{Closing}
use Rattle.gq_pipe.specs.steps.Told.{Closes, IsBoundBefore}

-- a group follows a list to a node, and a later one closes between an earlier node and this one: it is told to which rows relationships lead
-- from the earlier node
pub record IsClosing (c : Run) (ss : List GroupSteps) (depth : ℕ) (t : Closing) : Type 0 where
  pub follows : (f : Follow) → step_at c (group_at ss depth).first ≡ Extend false f.rel f.from f.to f.direction → f.to ≡ t.node
  pub later : ℕ
  pub behind : depth < later
  pub inside : later < length ss
  pub rel : ℕ
  pub closes : Closes (record { rel = rel; from = t.other; to = t.node; direction = t.near.direction }) (step_at c (group_at ss later).first)
  pub graph : t.near.graph ≡ c.graph
  pub table : t.near.table ≡ rel_table c.typed rel
  pub bound : IsBoundBefore c ss depth t.other
