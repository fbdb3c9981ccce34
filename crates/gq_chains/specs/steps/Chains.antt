-- Groups whose steps rows alone decide: they follow columns, or are tests.
use Rattle.std.specs.Prelude.{◌≡◌, ℕ, ◌+◌, ◌^◌, ◌<◌, ◌≤◌, MatchBool, Bool, length, slice_set}
use Rattle.gq_base.specs.Valid.{row_count}
use Rattle.gq_plan.specs.Plans.{Scan}
use Rattle.gq_plan.specs.Rows.{node_table}
use Rattle.gq_plan.specs.declared.assignment.Assignment.{Assignment}
use Rattle.gq_chains.specs.declared.chain.Beginning.{Beginning}
use Rattle.gq_chains.specs.declared.chain.Beginning.TheVariants as begin
use Rattle.gq_chains.specs.steps.Extends.{Extends, Leads}
use Rattle.gq_steps.specs.Tests.{GoesOn}
use Rattle.gq_steps.specs.Follows.{CanFollow}
use Rattle.gq_steps.specs.Levels.{Run, step_at}
use Rattle.gq_steps.specs.Reaching.{Reaches}
use Rattle.gq_steps.specs.declared.action.Action.{Action}
use Rattle.gq_steps.specs.declared.action.Action.TheVariants as act
use Rattle.gq_steps.specs.declared.group_steps.GroupSteps.{GroupSteps}

-- the step at a depth scans a node variable, or follows a relationship so
abbrev pub Begins : Run → ℕ → Beginning → Type 0
Begins c d (begin.Rows v) = step_at c d ≡ Scan v
Begins c d (begin.List f) = Extends c d f

-- what is done scans it, or follows a relationship so
abbrev pub BeginsBy : Action → Beginning → Type 0
BeginsBy a (begin.Rows v) = a ≡ act.Scan v
BeginsBy a (begin.List f) = Leads a f

-- a group begins so, and its other steps go on by rows alone
pub record IsChain (c : Run) (group : GroupSteps) (beginning : Beginning) : Type 0 where
  pub begins : Begins c group.first beginning
  pub goes_on : (d : ℕ) → group.first < d → d < group.end → GoesOn c group.first d

-- a chain can begin so with what an assignment has
pub record CanScan (c : Run) (old : Assignment) (v : ℕ) : Type 0 where
  pub node : v < length c.typed.nodes
  pub count : length old.nodes ≡ length c.typed.nodes

abbrev pub CanBegin : Run → Assignment → Beginning → Type 0
CanBegin c old (begin.Rows v) = CanScan c old v
CanBegin c old (begin.List f) = CanFollow c.graph c.typed old f

-- the row at a place is written, or there is no such place
pub record ScansRow (c : Run) (v place : ℕ) (old new : Assignment) : Type 0 where
  pub low : place < row_count c.graph.nodes (node_table c.typed v)
  pub few : place + 1 < 2 ^ 32
  pub written : new ≡ record { nodes = slice_set old.nodes v place; rels = old.rels }

pub record ScansNone (c : Run) (v place : ℕ) (old new : Assignment) : Type 0 where
  pub past : row_count c.graph.nodes (node_table c.typed v) ≤ place
  pub same : new ≡ old

abbrev pub HasBegun : Run → Beginning → ℕ → Assignment → Bool → Assignment → Type 0
HasBegun c (begin.Rows v) place old told new = MatchBool told (ScansRow c v place old new) (ScansNone c v place old new)
HasBegun c (begin.List f) place old told new = Reaches c.graph c.typed f place old told new
