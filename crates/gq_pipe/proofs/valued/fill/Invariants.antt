use Rattle.std.proofs.Common.{map}
use Rattle.std.specs.List.{range_with_len}
use Rattle.gq_filter.specs.Equal.{row_cell}
use Rattle.gq_index.specs.Numbered.{AreKeys}
use Rattle.gq_join.specs.Kept.{node_in}
use Rattle.gq_pipe.specs.steps.Valued.{number_in}
use Rattle.gq_pipe.proofs.valued.fill.Given as goal

abbrev pub invariant-loop-row : goal.invariant-loop-row
invariant-loop-row l = AreKeys (map (λ i. number_in (row_cell l.own (node_in l.build l.own.node i))) (range_with_len 0 l.row)) l.places
