use Rattle.std.proofs.Common.{◌∙◌, sym, arith}
use Rattle.gq_edges.proofs.Seen.{length-pairs_of, seen_pairs}
use Rattle.gq_edges.proofs.singles.Single.build.Goals as goal

pub returns-clause-len : goal.returns-clause-len
returns-clause-len c =
    let s = c.loop-i.invariant in
    length-pairs_of c.loop-i.numbers.items c.loop-i.targets.items (s.targets_len ∙ sym s.numbers_len) ∙ s.numbers_len

pub returns-clause-pairs : goal.returns-clause-pairs
returns-clause-pairs c =
    seen_pairs c.args.vertices c.loop-i.i c.loop-i.numbers.items c.loop-i.targets.items c.args.from.now c.args.to.now c.loop-i.invariant (omega (arith, c.loop-i-test.false, c.loop-i.auto.i-end))
