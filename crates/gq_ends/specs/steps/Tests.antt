-- Tests of columns, each of which is the only lane of its test.
use Rattle.std.specs.Prelude.{◌≡◌, ℕ, ℤ, ◌<◌, ◌≤◌, nat_eq, true, Option, None, List, All, length, slice_range, if◌then◌else◌}
use Rattle.gq_base.specs.Plain.{Graph}
use Rattle.gq_base.specs.Valid.{row_count}
use Rattle.gq_column.specs.Cells.{cell_at}
use Rattle.gq_filter.specs.LaneTests.{holds}
use Rattle.gq_law_trails.specs.Trails.{fits_end}
use Rattle.gq_plan.specs.declared.TrailPart.{TrailPart}
use Rattle.gq_ends.specs.declared.end_test.EndTest.{EndTest}

-- the cell of a row, and that of a place of the rows from low to below high
abbrev pub row_cell : List (Option ℤ) → ℕ → ℕ → Option ℤ
row_cell column row lane = if nat_eq lane 0 then cell_at column row else None

abbrev pub span_cell : List (Option ℤ) → ℕ → ℕ → ℕ → ℕ → Option ℤ
span_cell column low high place lane = if nat_eq lane 0 then cell_at (slice_range column low high) place else None

-- a test holds in each row of a table at which the node is as a trail asks of its other end
pub record IsNeeded (g : Graph) (p : TrailPart) (table : ℕ) (t : EndTest) : Type 0 where
  pub rows : length t.column.now ≡ row_count g.nodes table
  pub true_there : (row : ℕ) → row < row_count g.nodes table → fits_end g p (record { table = table; row = row }) ≡ true → holds (row_cell t.column.now row) t.test ≡ true

-- all hold in a row
abbrev pub HoldAll : List EndTest → ℕ → Type 0
HoldAll ts row = All (λ (t : EndTest). holds (row_cell t.column.now row) t.test ≡ true) ts

-- the columns have the rows below high
abbrev pub HaveRows : ℕ → List EndTest → Type 0
HaveRows high ts = All (λ (t : EndTest). high ≤ length t.column.now) ts
