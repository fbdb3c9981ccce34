-- The cells that the lanes of a condition have in a row.
use Rattle.std.specs.Prelude.{ℕ, ℤ, ◌≡◌, ◌≢◌, ◌<◌, ◌⊎◌, List, Option, Some, None, IfSome, length, slice_get}
use Rattle.gq_base.specs.Plain.{Graph, cell_val}
use Rattle.gq_base.specs.Values.{Val, flag, int}
use Rattle.gq_base.specs.declared.Kind.TheVariants.{Str}
use Rattle.gq_column.specs.Cells.{cell_at}
use Rattle.gq_plan.specs.Conditions.{passes}
use Rattle.gq_plan.specs.Rows.{as_read}
use Rattle.gq_plan.specs.declared.assignment.Assignment.{Assignment}
use Rattle.gq_plan.specs.declared.bound.NamedExpr.{NamedExpr}
use Rattle.gq_plan.specs.declared.typed.Typed.{Typed}
use Rattle.gq_plan.specs.declared.typed.TypedRel.{TypedRel}
use Rattle.gq_plan.specs.declared.variable.Variable.{Variable}
use Rattle.gq_plan.specs.declared.variable.Variable.TheVariants.{Node, Rel}
use Rattle.gq_store.specs.Cells.{rel_cell, rel_fields}
use Rattle.gq_store.specs.Columns.{flag_code}
use Rattle.gq_filter.specs.Feeds.{IsNodeFeed, IsRelFeed}
use Rattle.gq_filter.specs.LaneTests.{holds}
use Rattle.gq_filter.specs.declared.source.Feed.{Feed}
use Rattle.gq_filter.specs.declared.lane_test.LaneTest.{LaneTest}
use Rattle.gq_filter.specs.declared.source.ColumnId.{ColumnId}

-- ---- cells

abbrev pub cell_in : List (Option ℤ) → Option ℕ → Option ℤ
cell_in column None = None
cell_in column (Some row) = cell_at column row

-- what an integer or a boolean is in a lane
abbrev pub number_of : Val → Option ℤ
number_of (int z) = Some z
number_of (flag b) = Some (flag_code b)
number_of v = None

-- the cell of a property of the relationship with a load number
abbrev pub rel_lane : Graph → ColumnId → Option ℕ → Option ℤ
rel_lane g c None = None
rel_lane g c (Some number) = number_of (cell_val (rel_cell g c.table c.property number))

-- the cell of a feed of a variable in a row
abbrev pub lane_of : Graph → Assignment → Feed → Variable → Option ℤ
lane_of g row feed (Node v) = cell_in feed.property.now.column (slice_get row.nodes v)
lane_of g row feed (Rel x) = rel_lane g feed.column (slice_get row.rels x)

abbrev pub cell_of : Graph → Assignment → Option Feed → Option ℤ
cell_of g row None = None
cell_of g row (Some feed) = lane_of g row feed feed.variable

abbrev pub cells_of : Graph → List Feed → Assignment → ℕ → Option ℤ
cells_of g feeds row lane = cell_of g row (slice_get feeds lane)

-- ---- feeds of an alternative

-- a property of a node variable
pub record IsNodeFeedIn (g : Graph) (y : Typed) (feed : Feed) : Type 0 where
  pub variable : ℕ
  pub table : ℕ
  pub name : List ℕ
  pub table_is : slice_get y.nodes variable ≡ Some table
  pub is : IsNodeFeed g variable table name feed

-- a property of a relationship variable that is no text
pub record IsRelFeedIn (g : Graph) (y : Typed) (feed : Feed) : Type 0 where
  pub variable : ℕ
  pub rel : TypedRel
  pub name : List ℕ
  pub rel_is : slice_get y.rels variable ≡ Some rel
  pub within : rel.table < length g.catalog.rels
  pub no_text : feed.property.now.kind ≢ Str
  pub is : IsRelFeed g variable rel.table name feed

abbrev pub IsFeedIn : Graph → Typed → Feed → Type 0
IsFeedIn g y feed = IsNodeFeedIn g y feed ⊎ IsRelFeedIn g y feed

abbrev pub AreFeedsIn : Graph → Typed → List Feed → Type 0
AreFeedsIn g y feeds = (lane : ℕ) (feed : Feed) → slice_get feeds lane ≡ Some feed → IsFeedIn g y feed

-- the columns of relationships are there
abbrev pub AreInside : Graph → List Feed → Type 0
AreInside g feeds = (lane : ℕ) (feed : Feed) (x : ℕ) → slice_get feeds lane ≡ Some feed → feed.variable ≡ Rel x →
    (feed.column.table < length g.catalog.rels) × (feed.column.property < length (rel_fields g feed.column.table))

-- ---- tests

-- a test, if there is one, holds in exactly the rows in which a condition is true
abbrev pub DecidesRows : Graph → Typed → NamedExpr → List Feed → Option LaneTest → Type 0
DecidesRows g y condition feeds test = IfSome test (λ t. (row : Assignment) → holds (cells_of g feeds row) t ≡ passes g (as_read y row) condition)

-- each feed is of a node variable
abbrev pub IsOfNode : Variable → Type 0
IsOfNode (Node v) = Unit {0}
IsOfNode (Rel x) = ⊥

abbrev pub AreOfNodes : List Feed → Type 0
AreOfNodes feeds = (lane : ℕ) (feed : Feed) → slice_get feeds lane ≡ Some feed → IsOfNode feed.variable
