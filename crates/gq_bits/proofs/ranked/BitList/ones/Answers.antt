use Rattle.std.proofs.Common.{length, ap, ◌∙◌, arith, count_by}
use Rattle.std.proofs.lemmas.List.{take_all}
use Rattle.gq_bits.proofs.Words.{length-bits_of}
use Rattle.gq_bits.proofs.ranked.BitList.ones.Goals as goal

pub rank-requires : goal.rank-requires
rank-requires c = omega (arith, ap length c.self.view_is, length-bits_of c.self.inside.len c.self.inside.words.items)

pub returns : goal.returns
returns c = c.rank.ensures ∙ ap (count_by (λ on. on)) (take_all c.self.inside.len c.args.self.now (omega (arith, ap length c.self.view_is, length-bits_of c.self.inside.len c.self.inside.words.items)))
