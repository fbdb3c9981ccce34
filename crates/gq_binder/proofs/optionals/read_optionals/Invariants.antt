use Rattle.std.proofs.Common.{◌≡◌, ◌++◌, drop}
use Rattle.std.specs.Prelude.{flat_map}
use Rattle.gq_bound.specs.Columns.{conditions_from}
use Rattle.gq_bound.specs.Tested.{seen_elsewhere}
use Rattle.gq_bound.specs.steps.Names.{with_clauses_names}
use Rattle.gq_bound.specs.steps.Parts.{clauses_parts}
use Rattle.gq_scopes.specs.Patterns.{with_clauses}
use Rattle.gq_binder.proofs.optionals.read_optionals.Given as goal

abbrev pub invariant-loop-clause : goal.invariant-loop-clause
invariant-loop-clause l = record {
  pattern : with_clauses l.number (drop l.clause-index l.clauses) l.pattern ≡ with_clauses l.first l.clauses l.fn.pattern;
  names : with_clauses_names l.number (drop l.clause-index l.clauses) l.pattern l.names ≡ with_clauses_names l.first l.clauses l.fn.pattern l.fn.names;
  exists : l.exists ++ flat_map seen_elsewhere (conditions_from l.number l.pattern (drop l.clause-index l.clauses)) ≡ l.fn.exists ++ flat_map seen_elsewhere (conditions_from l.first l.fn.pattern l.clauses);
  parts : l.all ++ clauses_parts l.text l.number l.pattern (drop l.clause-index l.clauses) ≡ l.fn.all ++ clauses_parts l.text l.first l.fn.pattern l.clauses;
}
