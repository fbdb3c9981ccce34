use Rattle.gq_filter.specs.steps.RowCells.{AreFeedsIn}
use Rattle.gq_filter.proofs.row_feeds.add_feeds.Given as goal

abbrev pub invariant-reads : goal.invariant-reads
invariant-reads l = AreFeedsIn l.graph l.typed l.feeds.items
