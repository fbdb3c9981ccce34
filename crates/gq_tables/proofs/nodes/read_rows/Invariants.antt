use Rattle.std.proofs.Common.{◌≡◌, [], length}
use Rattle.gq_tables.proofs.NodeSteps.{Gathering}
use Rattle.gq_tables.specs.steps.Unread.{IsOpen, records_left}
use Rattle.gq_tables.proofs.nodes.read_rows.Given as goal

abbrev pub invariant-loop-room : goal.invariant-loop-room
invariant-loop-room l = (l.room ≡ []) × IsOpen l.reader × Gathering l.limit (length l.fields) l.fields (records_left l.initial.reader) (records_left l.reader) l.rows

abbrev pub decreases-loop-room : goal.decreases-loop-room
decreases-loop-room l = length (records_left l.reader)
