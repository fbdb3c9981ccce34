use Rattle.std.proofs.Common.{◌<◌, take}
use Rattle.std.specs.Prelude.{All}
use Rattle.gq_filter.proofs.recall.are_below.Given as goal

abbrev pub invariant-loop-row : goal.invariant-loop-row
invariant-loop-row l = All (λ row. row < l.end) (take l.row-index l.rows)
