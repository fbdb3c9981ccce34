use Rattle.std.proofs.Common.{◌≡◌, drop}
use Rattle.gq_eval.specs.Asked.{answers}
use Rattle.gq_eval.specs.Judged.{judged_after}
use Rattle.gq_eval.specs.declared.judging.Verdict.TheVariants.{Pass}
use Rattle.gq_eval.proofs.judging.judge.Given as goal

abbrev pub invariant-conjuncts : goal.invariant-conjuncts
invariant-conjuncts g l =
    judged_after l.verdict (answers (g.R.Assigned.assignment l.row) (drop l.conjunct-index l.conjuncts))
    ≡ judged_after Pass (answers (g.R.Assigned.assignment l.row) l.conjuncts)
