-- What a group that binds a node is told by a later one that follows a list from it to another node.
use Rattle.std.specs.List.{list_all}
use Rattle.std.specs.Prelude.{◌≡◌, ◌⊎◌, ℕ, ◌+◌, ◌<◌, ◌≤◌, ◌^◌, Bool, true, false, ◌&&◌, cond, Some, List, drop, length, slice_get, slice_index}
use Rattle.gq_base.specs.Directions.{opposite}
use Rattle.gq_base.specs.declared.direction.Direction.{Direction}
use Rattle.gq_bits.specs.Places.{is_marked}
use Rattle.gq_bits.specs.declared.TheConstants.{VECTOR}
use Rattle.gq_law_masks.specs.Alone.{passes_alone, reads_alone}
use Rattle.gq_law_masks.specs.Nothing.{MakeNothing}
use Rattle.gq_masks.specs.Masks.{AreReached, IsPart, may_reach, next_end}
use Rattle.gq_plan.specs.Plans.{Step, Scan, Extend, Keep}
use Rattle.gq_plan.specs.Rows.{node_table, rel_table}
use Rattle.gq_plan.specs.declared.assignment.Assignment.{Assignment}
use Rattle.gq_pipe.specs.declared.sight.Sight.{Sight}
use Rattle.gq_pipe.specs.steps.Told.{BindsNode}
use Rattle.gq_steps.specs.Groups.{group_at, group_in, groups_in}
use Rattle.gq_steps.specs.Levels.{Run, step_at}
use Rattle.gq_steps.specs.Moves.{IsRun}
use Rattle.gq_steps.specs.declared.group_steps.GroupSteps.{GroupSteps}
use Rattle.gq_plan.specs.declared.follow.Follow.{Follow}
use Rattle.gq_steps.specs.steps.Lists.{IsGrouped, rows_in}
use Rattle.gq_store.specs.Neighbours.{near_rows, neighbours}

-- where a node has this row of its table, the groups behind one make nothing
abbrev pub IsNothing : Run → List GroupSteps → ℕ → ℕ → ℕ → Type 0
IsNothing c ss d v q = IsRun c → IsGrouped c ss → MakeNothing c.graph c.typed (rows_in c ss) (d + 1) (groups_in c (drop (d + 1) ss)) v (record { table = node_table c.typed v; row = q })

-- a row of a node passes a step if it is a test that reads this node alone
abbrev pub passes_check : Run → ℕ → ℕ → Step → Bool
passes_check c v q (Keep test) = cond (reads_alone c.typed v test) (passes_alone c.graph c.typed v test q) true
passes_check c v q s = true

-- it passes all tests of a group that read this node alone
abbrev pub may_pass : Run → GroupSteps → ℕ → ℕ → Bool
may_pass c s v q = list_all (passes_check c v q) (group_in c.steps s).checks

-- of the rows of which it is told, those are chosen that the tests of its group pass, but some at most behind which there is nothing
pub record IsSeen (c : Run) (ss : List GroupSteps) (t : Sight) : Type 0 where
  pub far : t.far < length c.typed.nodes
  pub live : ℕ → Bool
  pub nothing : (q : ℕ) → live q ≡ false → IsNothing c ss t.later t.far q
  pub reached : AreReached t.mask (λ q. may_pass c t.group t.far q && live q)

-- of the rows of which it is told next, all of these are marked
pub record IsNext (c : Run) (ss : List GroupSteps) (t : Sight) (marks : List Bool) : Type 0 where
  pub live : ℕ → Bool
  pub nothing : (q : ℕ) → live q ≡ false → IsNothing c ss t.later t.far q
  pub part : IsPart (λ q. may_pass c t.group t.far q && live q) t.mask.told (next_end t.mask) marks

-- of marked rows of those of which it is told next all stay so, but some at most behind which there is nothing
pub record StayOpen (c : Run) (ss : List GroupSteps) (t : Sight) (old new : List Bool) : Type 0 where
  pub live : ℕ → Bool
  pub nothing : (q : ℕ) → live q ≡ false → IsNothing c ss t.later t.far q
  pub stay : (k : ℕ) → k < VECTOR → is_marked old k ≡ true → live (t.mask.told + k) ≡ true → is_marked new k ≡ true

-- the same, of whichever rows it is told
pub record IsAsSeen (old new : Sight) : Type 0 where
  pub node : new.node ≡ old.node
  pub later : new.later ≡ old.later
  pub group : new.group ≡ old.group
  pub far : new.far ≡ old.far
  pub graph : new.mask.graph ≡ old.mask.graph
  pub table : new.mask.table ≡ old.mask.table
  pub direction : new.mask.direction ≡ old.mask.direction

-- it is told of all rows, and a row is not reached from a chosen one
pub record IsUnseen (t : Sight) (own : ℕ) : Type 0 where
  pub whole : near_rows t.mask.graph t.mask.table t.mask.direction ≤ t.mask.told
  pub off : may_reach t.mask own ≡ false

-- a flat group binds a node, and a later one follows a list from it to another node
pub record IsSight (c : Run) (ss : List GroupSteps) (depth : ℕ) (t : Sight) : Type 0 where
  pub binds : BindsNode t.node (step_at c (group_at ss depth).first)
  pub flat : (group_at ss depth).flat ≡ true
  pub behind : depth < t.later
  pub inside : t.later < length ss
  pub rel : ℕ
  pub way : Direction
  pub follows : step_at c (group_at ss t.later).first ≡ Extend false rel t.node t.far way
  pub group : t.group ≡ group_at ss t.later
  pub graph : t.mask.graph ≡ c.graph
  pub table : t.mask.table ≡ rel_table c.typed rel
  pub direction : t.mask.direction ≡ opposite way
  pub seen : IsSeen c ss t

-- the step at a depth is a test that reads one node alone
pub record IsAsked (c : Run) (d node test : ℕ) : Type 0 where
  pub is : step_at c d ≡ Keep test
  pub alone : reads_alone c.typed node test ≡ true

-- how a group follows a list from a node to another one
pub record IsLead (c : Run) (s : GroupSteps) (node : ℕ) (f : Follow) : Type 0 where
  pub follows : step_at c s.first ≡ Extend false f.rel f.from f.to f.direction
  pub from : f.from ≡ node

-- a place of the list of the step at a depth is one of a row
pub record IsListed (c : Run) (d : ℕ) (row : Assignment) (place own : ℕ) : Type 0 where
  pub follow : Follow
  pub follows : step_at c d ≡ Extend false follow.rel follow.from follow.to follow.direction
  pub there : slice_get (neighbours c.graph (rel_table c.typed follow.rel) follow.direction (slice_index row.nodes follow.from)) place ≡ Some own
  pub inside : own < near_rows c.graph (rel_table c.typed follow.rel) (opposite follow.direction)
  pub few : length (neighbours c.graph (rel_table c.typed follow.rel) follow.direction (slice_index row.nodes follow.from)) < 2 ^ 32

-- the step at a depth scans a node's table
abbrev pub Scans : Run → ℕ → Type 0
Scans c d = (node : ℕ) × (step_at c d ≡ Scan node)

-- at a place of the step at a depth its node has a row
abbrev pub HasRow : Run → ℕ → Assignment → ℕ → ℕ → Type 0
HasRow c d row place own = (Scans c d × (own ≡ place)) ⊎ IsListed c d row place own
