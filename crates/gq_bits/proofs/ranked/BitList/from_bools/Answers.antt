use Rattle.std.proofs.Common.{ℕ, length, false, ◌∙◌, arith}
use Rattle.std.proofs.lemmas.List.{ext_get_or}
use Rattle.gq_bits.specs.steps.Bits.{bits_of}
use Rattle.gq_bits.proofs.Words.{length-bits_of, get_or-bits_of}
use Rattle.gq_bits.proofs.ranked.BitList.from_bools.Goals as goal

pub returns : goal.returns
returns c =
    let n : ℕ = length c.args.bits.now in
    ext_get_or false (bits_of n c.in_ok-words.words.items) c.args.bits.now (length-bits_of n c.in_ok-words.words.items)
    (λ i h. get_or-bits_of n c.in_ok-words.words.items i false (omega (arith, length-bits_of n c.in_ok-words.words.items)) ∙ c.in_ok-words.ensures.bits i)
