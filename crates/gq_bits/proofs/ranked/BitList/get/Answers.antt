use Rattle.std.proofs.Common.{◌<◌, ◌/◌, ◌%◌, length, ap, sym, ◌∙◌, arith, eqb}
use Rattle.std.specs.Int.{bit_at}
use Rattle.std.proofs.lemmas.List.{get_or_read_under}
use Rattle.std.proofs.lemmas.Nat.Bits.{shr_and_one}
use Rattle.gq_bits.proofs.Words.{length-bits_of, get_or-bits_of}
use Rattle.gq_bits.proofs.ranked.BitList.get.Goals as goal

pub index-requires : goal.index-requires
index-requires c = omega (arith, ap length c.self.view_is, length-bits_of c.self.inside.len c.self.inside.words.items, c.self.invariant.enough, c.self.inside.words.ok.0)

pub returns : goal.returns
returns c =
    let inside : c.args.place < c.self.inside.len = omega (arith, ap length c.self.view_is, length-bits_of c.self.inside.len c.self.inside.words.items) in
    let word = get_or_read_under c.self.inside.words.items (c.args.place / 64) _ c.index.result.now 0 c.index.ensures (omega (arith, c.self.invariant.enough, c.self.inside.words.ok.0)) c.self.inside.words.ok.0 in
    rw (← c.self.view_is, shr_and_one) (ap (λ w. eqb (bit_at w (c.args.place % 64)) 1) word ∙ sym (get_or-bits_of c.self.inside.len c.self.inside.words.items c.args.place _ inside))
