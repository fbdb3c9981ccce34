-- Conditions on a relationship that the place decides at which it stands.
use Rattle.std.specs.Prelude.{ℕ, ◌≡◌, ◌<◌, false, true, Some, slice_get}
use Rattle.gq_plan.specs.Rows.{rel_table}
use Rattle.gq_plan.specs.declared.assignment.Assignment.{Assignment}
use Rattle.gq_store.specs.Places.{number_at}
use Rattle.gq_filter.specs.LaneTests.{holds}
use Rattle.gq_filter.specs.RowTests.{RowCondition, is_true_of}
use Rattle.gq_filter.specs.declared.placed.PlacedTest.{PlacedTest}
use Rattle.gq_filter.specs.RowLists.{cells_at}

-- the test does not hold of the cells at a place
pub record Refuses (t : PlacedTest) (place : ℕ) : Type 0 where
  pub within : place < t.places
  pub fails : holds (cells_at t.feeds.now place) t.test.now ≡ false

-- the test holds of them
pub record Passes (t : PlacedTest) (place : ℕ) : Type 0 where
  pub within : place < t.places
  pub on : holds (cells_at t.feeds.now place) t.test.now ≡ true

-- where a place is refused, the condition is true of no row in which the variable has the load number there
abbrev pub IsPlacedTest : RowCondition → ℕ → PlacedTest → Type 0
IsPlacedTest c x t = (place number : ℕ) (row : Assignment) → number_at c.graph (rel_table c.typed x) place ≡ Some number → slice_get row.rels x ≡ Some number →
    Refuses t place → is_true_of c row ≡ false

-- where a place passes, the condition is true of each row in which the variable has the load number there
abbrev pub IsPassingTest : RowCondition → ℕ → PlacedTest → Type 0
IsPassingTest c x t = (place number : ℕ) (row : Assignment) → number_at c.graph (rel_table c.typed x) place ≡ Some number → slice_get row.rels x ≡ Some number →
    Passes t place → is_true_of c row ≡ true
