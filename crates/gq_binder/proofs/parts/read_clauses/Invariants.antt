use Rattle.std.proofs.Common.{◌≡◌, ◌++◌, drop}
use Rattle.gq_bound.specs.Columns.{conditions_from}
use Rattle.gq_bound.specs.steps.Names.{with_clauses_names}
use Rattle.gq_bound.specs.steps.Parts.{known_conjuncts, known_seen}
use Rattle.gq_scopes.specs.Patterns.{with_clauses}
use Rattle.gq_binder.proofs.parts.read_clauses.Given as goal

abbrev pub invariant-loop-clause : goal.invariant-loop-clause
invariant-loop-clause l = record {
  pattern : with_clauses l.number (drop l.clause-index l.clauses) l.pattern ≡ with_clauses 0 l.clauses l.fn.pattern;
  names : with_clauses_names l.number (drop l.clause-index l.clauses) l.pattern l.names ≡ with_clauses_names 0 l.clauses l.fn.pattern l.fn.names;
  exists : l.exists ++ known_seen l.text (conditions_from l.number l.pattern (drop l.clause-index l.clauses)) ≡ l.fn.exists ++ known_seen l.text (conditions_from 0 l.fn.pattern l.clauses);
  conjuncts : l.conjuncts ++ known_conjuncts l.text (conditions_from l.number l.pattern (drop l.clause-index l.clauses)) ≡ l.fn.conjuncts ++ known_conjuncts l.text (conditions_from 0 l.fn.pattern l.clauses);
}
