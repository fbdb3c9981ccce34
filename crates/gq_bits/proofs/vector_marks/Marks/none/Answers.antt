use Rattle.std.proofs.Common.{◌∙◌, ◌/◌, replicate}
use Rattle.gq_bits.specs.declared.TheConstants.{VECTOR}
use Rattle.gq_bits.proofs.Words.{is_marked-bits_of, bit_of-zeros}
use Rattle.gq_bits.proofs.vector_marks.Marks.none.Goals as goal

pub returns-clause-blank : goal.returns-clause-blank
returns-clause-blank c = λ k. is_marked-bits_of (replicate (VECTOR / 64) 0) k ∙ bit_of-zeros (VECTOR / 64) k
