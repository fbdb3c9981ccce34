use Rattle.std.proofs.Common.{◌-◌, ◌*◌, ◌+◌, ◌<◌, length}
use Rattle.gq_bits.proofs.Search.{Sought}
use Rattle.gq_bits.proofs.vector_marks.Marks.next_from.Given as goal

abbrev pub invariant-loop-word : goal.invariant-loop-word
invariant-loop-word l = Sought l.words l.place l.index l.word × (l.place < 64 * (l.index + 1))

abbrev pub decreases-loop-word : goal.decreases-loop-word
decreases-loop-word l = length l.words - l.index
