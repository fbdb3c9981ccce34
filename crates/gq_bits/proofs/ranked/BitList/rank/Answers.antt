use Rattle.std.proofs.Common.{◌≡◌, ◌<◌, ◌≤◌, ◌/◌, ◌%◌, ◌*◌, ◌+◌, ◌-◌, ◌^◌, length, take, ap, sym, ◌∙◌, arith, count_by}
use Rattle.std.specs.Prelude.{count_ones, bit_and}
use Rattle.std.proofs.lemmas.List.{get_or_read_under}
use Rattle.gq_bits.proofs.Words.{length-bits_of}
use Rattle.gq_bits.specs.steps.Bits.{bits_of}
use Rattle.gq_bits.proofs.Ranks.{rank_is, rank_le}
use Rattle.gq_bits.proofs.ranked.BitList.rank.Goals as goal

pub index-requires : goal.index-requires
index-requires c = omega (arith, ap length c.self.view_is, length-bits_of c.self.inside.len c.self.inside.words.items, c.self.invariant.enough, c.self.inside.words.ok.0)

pub index-requires-2 : goal.index-requires-2
index-requires-2 c = omega (arith, ap length c.self.view_is, length-bits_of c.self.inside.len c.self.inside.words.items, c.self.invariant.enough, c.self.invariant.paired, c.self.inside.sums.ok.0)

pub returns : goal.returns
returns c =
    let within : c.args.place ≤ c.self.inside.len = omega (arith, ap length c.self.view_is, length-bits_of c.self.inside.len c.self.inside.words.items) in
    let near : c.args.place / 64 < length c.self.inside.words.items = omega (arith, c.self.invariant.enough) in
    let word = get_or_read_under c.self.inside.words.items (c.args.place / 64) _ c.index.result.now 0 c.index.ensures (omega (arith, c.self.inside.words.ok.0)) c.self.inside.words.ok.0 in
    let sum = get_or_read_under c.self.inside.sums.items (c.args.place / 64) _ c.index-2.result.now 0 c.index-2.ensures (omega (arith, c.self.invariant.paired, c.self.inside.sums.ok.0)) c.self.inside.sums.ok.0 in
    rw (← c.self.view_is) (ap (λ s. s + count_ones (bit_and c.index.result.now (1 * 2 ^ (c.args.place % 64) % 2 ^ 64 - 1))) (sum ∙ c.self.invariant.ones (c.args.place / 64) near)
    ∙ ap (λ w. count_by (λ on. on) (bits_of (64 * (c.args.place / 64)) c.self.inside.words.items) + count_ones (bit_and w (1 * 2 ^ (c.args.place % 64) % 2 ^ 64 - 1))) word
    ∙ sym (rank_is c.self.inside.len c.self.inside.words.items c.args.place within))

pub overflow_add-result : goal.overflow_add-result
overflow_add-result c =
    let within : c.args.place ≤ c.self.inside.len = omega (arith, ap length c.self.view_is, length-bits_of c.self.inside.len c.self.inside.words.items) in
    let near : c.args.place / 64 < length c.self.inside.words.items = omega (arith, c.self.invariant.enough) in
    let word = get_or_read_under c.self.inside.words.items (c.args.place / 64) _ c.index.result.now 0 c.index.ensures (omega (arith, c.self.inside.words.ok.0)) c.self.inside.words.ok.0 in
    let sum = get_or_read_under c.self.inside.sums.items (c.args.place / 64) _ c.index-2.result.now 0 c.index-2.ensures (omega (arith, c.self.invariant.paired, c.self.inside.sums.ok.0)) c.self.inside.sums.ok.0 in
    let value : c.index-2.result.now + count_ones (bit_and c.index.result.now (1 * 2 ^ (c.args.place % 64) % 2 ^ 64 - 1)) ≡ count_by (λ on. on) (take c.args.place (bits_of c.self.inside.len c.self.inside.words.items)) =
    ap (λ s. s + count_ones (bit_and c.index.result.now (1 * 2 ^ (c.args.place % 64) % 2 ^ 64 - 1))) (sum ∙ c.self.invariant.ones (c.args.place / 64) near)
    ∙ ap (λ w. count_by (λ on. on) (bits_of (64 * (c.args.place / 64)) c.self.inside.words.items) + count_ones (bit_and w (1 * 2 ^ (c.args.place % 64) % 2 ^ 64 - 1))) word
    ∙ sym (rank_is c.self.inside.len c.self.inside.words.items c.args.place within) in
    omega (arith, value, rank_le c.args.place (bits_of c.self.inside.len c.self.inside.words.items), c.ranges.place)
