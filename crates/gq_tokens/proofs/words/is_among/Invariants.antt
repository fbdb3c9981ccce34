use Rattle.std.proofs.Common.{◌≡◌, drop, map}
use Rattle.gq_tokens.specs.Words.{is_among}
use Rattle.gq_tokens.proofs.words.is_among.Given as goal

abbrev pub invariant-loop-other : goal.invariant-loop-other
invariant-loop-other l = is_among l.word (drop l.other-index (map (λ w. w.now) l.words)) ≡ is_among l.fn.word (map (λ w. w.now) l.fn.words)
