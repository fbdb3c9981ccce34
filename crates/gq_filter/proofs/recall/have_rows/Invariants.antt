use Rattle.std.proofs.Common.{◌≡◌, ◌≤◌, ◌<◌, ℕ, Some, length}
use Rattle.std.specs.Prelude.{slice_get}
use Rattle.gq_filter.specs.declared.source.Feed.{Feed}
use Rattle.gq_filter.proofs.recall.have_rows.Given as goal

abbrev pub invariant-loop-feed : goal.invariant-loop-feed
invariant-loop-feed l = (lane : ℕ) (feed : Feed) → lane < l.feed-index → slice_get l.feeds lane ≡ Some feed → l.rows ≤ length feed.property.now.column
