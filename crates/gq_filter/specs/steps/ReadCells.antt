-- The cells that the lanes of a condition have in a row as expressions read it.
use Rattle.std.specs.Prelude.{ℕ, ℤ, ◌≡◌, ◌≤◌, ◌<◌, true, List, Option, Some, None, length, slice_get, slice_index_or}
use Rattle.gq_base.specs.Plain.{Graph}
use Rattle.gq_expr.specs.Reading.{Assignment}
use Rattle.gq_expr.specs.declared.expr.Expr.{Expr}
use Rattle.gq_plan.specs.declared.typed.Typed.{Typed}
use Rattle.gq_filter.specs.Cells.{IsInLane}
use Rattle.gq_filter.specs.Deciding.{Decides}
use Rattle.gq_filter.specs.Sources.{value_of}
use Rattle.gq_filter.specs.declared.source.Feed.{Feed}
use Rattle.gq_filter.specs.declared.lane_test.LaneTest.{LaneTest}
use Rattle.gq_filter.specs.steps.RowCells.{AreFeedsIn, IsFeedIn}

-- a feed is of some alternative
pub record IsFeed (g : Graph) (feed : Feed) : Type 0 where
  pub typed : Typed
  pub is : IsFeedIn g typed feed

abbrev pub AreFeeds : Graph → List Feed → Type 0
AreFeeds g feeds = (lane : ℕ) (feed : Feed) → slice_get feeds lane ≡ Some feed → IsFeed g feed

-- a feed's lane has the value of a row
abbrev pub IsFilled : Graph → Assignment → Feed → Option ℤ → Type 0
IsFilled g row feed cell = IsInLane feed.property.now.kind feed.property.now.dict (value_of g row feed) cell

abbrev pub lane_in : List (Option ℤ) → ℕ → Option ℤ
lane_in cells lane = slice_index_or cells lane None

-- so have the lanes of the first feeds
abbrev pub AreFilled : Graph → Assignment → List Feed → ℕ → List (Option ℤ) → Type 0
AreFilled g row feeds n cells = (lane : ℕ) (feed : Feed) → lane < n → slice_get feeds lane ≡ Some feed → IsFilled g row feed (lane_in cells lane)

-- a test of a few lanes tells where an expression is true
pub record TellsBy (g : Graph) (expr : Expr) (feeds : List Feed) (test : LaneTest) : Type 0 where
  pub few : length feeds ≤ 4
  pub typed : Typed
  pub are : AreFeedsIn g typed feeds
  pub decides : Decides true feeds expr test
