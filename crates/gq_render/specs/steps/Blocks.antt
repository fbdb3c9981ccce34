-- What was read of the lines of a listing before they are put.
use Rattle.std.specs.Prelude.{ℕ, ◌≡◌, ◌+◌, ◌-◌, ◌<◌, ◌≤◌, List, [], length, take, get_or, slice_get, IfSome}
use Rattle.gq_base.specs.Plain.{Graph}
use Rattle.gq_base.specs.Values.{Val, null}
use Rattle.gq_cells.specs.Lanes.{lane_val}
use Rattle.gq_cells.specs.declared.lane.Lane.{Lane}
use Rattle.gq_render.specs.declared.block.Block.TheInside.{Inside}

-- a line and the next one have so many first values in common
abbrev pub Staying : List (List Val) → ℕ → ℕ → Type 0
Staying lines row count = take count (get_or lines row []) ≡ take count (get_or lines (row + 1) [])

-- lines have a column
abbrev pub HasColumn : List (List Val) → ℕ → ℕ → Type 0
HasColumn lines row column = column < length (get_or lines row [])

-- the lines from one to below another have so many first values in common
abbrev pub AllStaying : List (List Val) → ℕ → ℕ → ℕ → Type 0
AllStaying lines first end count = (row : ℕ) → first ≤ row → row + 1 < end → Staying lines row count

-- in these lines a column has the same value
abbrev pub IsSame : List (List Val) → ℕ → ℕ → ℕ → Type 0
IsSame lines first end column = (row : ℕ) → first ≤ row → row + 1 < end → get_or (get_or lines row []) column null ≡ get_or (get_or lines (row + 1) []) column null

-- a lane has the values of these lines in a column
pub record HasRead (lines : List (List Val)) (first end column : ℕ) (lane : Lane) : Type 0 where
  pub few : end - first ≤ 64
  pub values : (row : ℕ) → first ≤ row → row < end → HasColumn lines row column → lane_val lane (row - first) ≡ get_or (get_or lines row []) column null

-- lanes have the values of these lines from one column on to below another
abbrev pub HaveRead : List (List Val) → ℕ → ℕ → ℕ → ℕ → List Lane → Type 0
HaveRead lines first end low high lanes = (column : ℕ) → low ≤ column → column < high → IfSome (slice_get lanes column) (HasRead lines first end column)

-- these lines were read, but for so many first columns that have the same values in all of them
pub record AreRead (lines : List (List Val)) (first end staying : ℕ) (lanes : List Lane) : Type 0 where
  pub within : end ≤ length lines
  pub same : AllStaying lines first end staying
  pub values : HaveRead lines first end staying (length lanes) lanes

-- the lines of a listing over a graph, and from which of them on and to below which one they are put
pub record Shown : Type 0 where
  pub graph : Graph
  pub lines : List (List Val)
  pub first : ℕ
  pub end : ℕ

-- a line of these
abbrev pub line_of : Shown → ℕ → List Val
line_of b row = get_or b.lines row []

-- a line is put by a block
abbrev pub HasLine : Shown → ℕ → Type 0
HasLine b row = (b.first ≤ row) × (row < b.end) × (row < length b.lines)

-- so are the lines from one on to below another
abbrev pub HasLines : Shown → ℕ → ℕ → Type 0
HasLines b first end = (b.first ≤ first) × (first ≤ end) × (end ≤ b.end) × (end ≤ length b.lines)

abbrev pub shown : Inside → Shown
shown b = record { graph = b.graph.now; lines = b.listing.now.lines; first = b.first; end = b.end }

abbrev pub IsBlock : Inside → Type 0
IsBlock b = AreRead b.listing.now.lines b.first b.end b.staying b.lanes.now
