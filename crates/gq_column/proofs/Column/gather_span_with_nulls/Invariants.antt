use Rattle.std.proofs.Common.{min, ◌*◌, ◌-◌}
use Rattle.std.specs.Prelude.{slice_range}
use Rattle.gq_column.proofs.Filled.{Filled}
use Rattle.gq_column.proofs.Column.gather_span_with_nulls.Given as goal

abbrev pub invariant-loop-index : goal.invariant-loop-index
invariant-loop-index l = Filled (slice_range l.self l.low l.high) (min (l.high - l.low) (64 * l.index)) l.initial.out l.out l.known
