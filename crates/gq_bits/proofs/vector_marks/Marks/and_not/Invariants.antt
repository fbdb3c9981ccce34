use Rattle.std.proofs.Common.{not}
use Rattle.std.specs.Prelude.{◌&&◌}
use Rattle.gq_bits.specs.steps.Bits.{bit_of}
use Rattle.gq_bits.proofs.Words.{ChangedBelow}
use Rattle.gq_bits.proofs.vector_marks.Marks.and_not.Given as goal

abbrev pub invariant-loop-index : goal.invariant-loop-index
invariant-loop-index l = ChangedBelow (λ k b. b && not (bit_of l.other-inside.words k)) l.index l.initial.self-inside.words l.self-inside.words
