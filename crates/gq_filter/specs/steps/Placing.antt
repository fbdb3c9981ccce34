-- Lanes of one relationship variable, whose cells stand by place.
use Rattle.std.specs.Prelude.{ℕ, ◌≡◌, ◌≤◌, List, Some, length, slice_get}
use Rattle.gq_plan.specs.declared.variable.Variable.TheVariants.{Rel}
use Rattle.gq_filter.specs.declared.source.Feed.{Feed}
use Rattle.gq_filter.specs.declared.lane_test.LaneTest.{LaneTest}
use Rattle.gq_filter.specs.declared.placed.PlacedTest.{PlacedTest}
use Rattle.gq_filter.specs.declared.placed.Placement.{Placement}

-- a lane of the variable, whose column has so many places
pub record IsPlaced (x places : ℕ) (feed : Feed) : Type 0 where
  pub of_rel : feed.variable ≡ Rel x
  pub inside : places ≤ length feed.property.now.column

abbrev pub ArePlaced : ℕ → ℕ → List Feed → Type 0
ArePlaced x places feeds = (lane : ℕ) (feed : Feed) → slice_get feeds lane ≡ Some feed → IsPlaced x places feed

-- so they are of the variable that was found, with the places that were
abbrev pub IsPlacementOf : List Feed → Placement → Type 0
IsPlacementOf feeds p = ArePlaced p.rel p.places feeds

-- a test with such lanes
pub record IsTestOf (test : LaneTest) (feeds : List Feed) (x : ℕ) (t : PlacedTest) : Type 0 where
  pub test_is : t.test.now ≡ test
  pub feeds_are : t.feeds.now ≡ feeds
  pub placed : ArePlaced x t.places feeds
