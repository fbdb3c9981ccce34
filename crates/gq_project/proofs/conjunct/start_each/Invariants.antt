use Rattle.std.proofs.Common.{◌≡◌}
use Rattle.gq_project.proofs.conjunct.start_each.Given as goal

abbrev pub invariant-late : goal.invariant-late
invariant-late l = l.conjuncts.items ≡ l.initial.conjuncts.items
