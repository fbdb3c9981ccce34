use Rattle.std.proofs.Common.{◌≡◌, ◌+◌}
use Rattle.gq_column.specs.Cells.{cell_at}
use Rattle.gq_column.specs.steps.Cells.{BlockGathered}
use Rattle.gq_column.proofs.Ranked.{rank}
use Rattle.gq_column.proofs.Filled.{IsFree}
use Rattle.gq_column.proofs.Column.gather_span_block.Given as goal

abbrev pub invariant-loop-place : goal.invariant-loop-place
invariant-loop-place l = record {
  block : BlockGathered (λ k. cell_at l.self (l.low + k)) l.first l.place l.initial.out l.out l.word;
  free : IsFree l.first l.place l.word;
  walked : l.next ≡ rank l.self-inside.present (l.low + l.place);
}
