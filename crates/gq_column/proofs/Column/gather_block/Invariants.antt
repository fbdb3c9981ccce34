use Rattle.std.proofs.Common.{◌-◌, ◌<◌, ◌^◌}
use Rattle.std.specs.Prelude.{slice_index}
use Rattle.gq_column.specs.Cells.{cell_at}
use Rattle.gq_column.specs.steps.Cells.{BlockGathered}
use Rattle.gq_column.proofs.Column.gather_block.Given as goal

abbrev pub invariant-loop-done : goal.invariant-loop-done
invariant-loop-done l = BlockGathered (λ k. cell_at l.self (slice_index l.rows k)) (l.high - l.done) l.high l.initial.out l.out l.word × (l.word < 2 ^ l.done)
