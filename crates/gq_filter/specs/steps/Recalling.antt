-- What is remembered of a test of lanes.
use Rattle.std.specs.Prelude.{ℕ, ◌≡◌, ◌<◌, List, Bool, Option, IfSome, length}
use Rattle.gq_bits.specs.Places.{is_marked}
use Rattle.gq_filter.specs.LaneTests.{holds}
use Rattle.gq_filter.specs.declared.source.Feed.{Feed}
use Rattle.gq_filter.specs.declared.lane_test.LaneTest.{LaneTest}
use Rattle.gq_filter.specs.RowLists.{cells_at}

-- of the first rows it is told at which of them a test holds
abbrev pub TellsTest : List Feed → LaneTest → List Bool → Type 0
TellsTest feeds test told = (row : ℕ) → row < length told → is_marked told row ≡ holds (cells_at feeds row) test

-- the same of a test that may be there
abbrev pub TellsOf : List Feed → Option LaneTest → List Bool → Type 0
TellsOf feeds test told = IfSome test (λ t. TellsTest feeds t told)
