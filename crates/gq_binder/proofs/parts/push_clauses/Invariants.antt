use Rattle.std.proofs.Common.{◌≡◌, drop}
use Rattle.gq_scopes.specs.Patterns.{with_clauses}
use Rattle.gq_binder.proofs.parts.push_clauses.Given as goal

abbrev pub invariant-loop-clause : goal.invariant-loop-clause
invariant-loop-clause l = with_clauses l.number (drop l.clause-index l.clauses) l.pattern ≡ with_clauses 0 l.clauses l.fn.pattern
