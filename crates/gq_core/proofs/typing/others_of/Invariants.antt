use Rattle.std.proofs.Common.{◌≡◌, ◌++◌, drop}
use Rattle.gq_law_cuts.specs.Typing.{is_early, others_from, stays_in}
use Rattle.gq_core.proofs.typing.others_of.Given as goal

abbrev pub invariant-loop-conjunct : goal.invariant-loop-conjunct
invariant-loop-conjunct l =
    l.others ++ others_from (is_early (stays_in l.count) l.kinds) l.number (drop l.conjunct-index l.conjuncts)
    ≡ others_from (is_early (stays_in l.count) l.kinds) 0 l.conjuncts
