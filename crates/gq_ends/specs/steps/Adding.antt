-- Nodes that are added to others: those of rows, and those of a table.
use Rattle.std.specs.Prelude.{◌≡◌, ℕ, ◌<◌, ◌≤◌, true, List}
use Rattle.std.specs.List.{AllByRecursion, Contains}
use Rattle.gq_base.specs.Plain.{Graph}
use Rattle.gq_base.specs.Valid.{row_count}
use Rattle.gq_base.specs.declared.NodeId.{NodeId}
use Rattle.gq_law_trails.specs.Trails.{fits_end}
use Rattle.gq_plan.specs.Assignments.{is_node}
use Rattle.gq_plan.specs.declared.TrailPart.{TrailPart}
use Rattle.gq_ends.specs.declared.end_test.EndTest.{EndTest}
use Rattle.gq_ends.specs.steps.Tests.{HoldAll}

abbrev pub AreInside : Graph → List NodeId → Type 0
AreInside g ns = AllByRecursion (λ n. is_node g n ≡ true) ns

-- of the rows of a table from low to below high, those in which all tests hold
pub record HasRows (ts : List EndTest) (table low high : ℕ) (old new : List NodeId) : Type 0 where
  pub still : (n : NodeId) → Contains old n → Contains new n
  pub rows : (row : ℕ) → low ≤ row → row < high → HoldAll ts row → Contains new (record { table = table; row = row })
  pub inside : (g : Graph) → high ≤ row_count g.nodes table → AreInside g old → AreInside g new

-- of the nodes of a table, those that are as a trail asks of its other end
pub record HasTable (g : Graph) (p : TrailPart) (table : ℕ) (old new : List NodeId) : Type 0 where
  pub still : (n : NodeId) → Contains old n → Contains new n
  pub rows : (row : ℕ) → row < row_count g.nodes table → fits_end g p (record { table = table; row = row }) ≡ true → Contains new (record { table = table; row = row })
  pub inside : AreInside g old → AreInside g new

-- of the nodes of the first tables, so many, all that are as the trail asks
pub record HaveTables (g : Graph) (p : TrailPart) (tables : ℕ) (ns : List NodeId) : Type 0 where
  pub inside : AreInside g ns
  pub all : (n : NodeId) → n.table < tables → is_node g n ≡ true → fits_end g p n ≡ true → Contains ns n
