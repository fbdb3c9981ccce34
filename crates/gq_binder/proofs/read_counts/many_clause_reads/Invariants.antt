use Rattle.std.proofs.Common.{◌≡◌, drop, map}
use Rattle.gq_bound.specs.Refusals.{first_of_all, maps_alone}
use Rattle.gq_bound.specs.steps.Parts.{own_patterns}
use Rattle.gq_binder.proofs.read_counts.many_clause_reads.Given as goal

abbrev pub invariant-loop-clause : goal.invariant-loop-clause
invariant-loop-clause l = first_of_all (map maps_alone (own_patterns (drop l.clause-index l.clauses))) ≡ first_of_all (map maps_alone (own_patterns l.clauses))
