use Rattle.std.proofs.Common.{◌≡◌, ◌++◌, take, filter, not}
use Rattle.gq_expr.specs.Kinds.{can_fault}
use Rattle.gq_alternatives.proofs.typing.tests_of.Given as goal

abbrev pub invariant-loop-conjunct : goal.invariant-loop-conjunct
invariant-loop-conjunct l = l.tests ≡ l.entries ++ filter (λ e. not (can_fault l.kinds e.expr)) (take l.conjunct-index l.conjuncts)
