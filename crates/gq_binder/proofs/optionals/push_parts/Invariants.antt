use Rattle.std.proofs.Common.{◌≡◌, ◌++◌, drop, map}
use Rattle.gq_alternatives.specs.Alternatives.{pattern_alternatives}
use Rattle.gq_bound.specs.steps.Parts.{optional_part, own_patterns}
use Rattle.gq_binder.proofs.optionals.push_parts.Given as goal

abbrev pub invariant-loop-clause : goal.invariant-loop-clause
invariant-loop-clause l = record {
  parts : l.all ++ map (optional_part l.catalog) (drop l.clause-index l.clause-items) ≡ l.fn.all ++ map (optional_part l.catalog) l.fn.clauses;
  choices : drop l.at l.choices ≡ map (pattern_alternatives l.catalog) (own_patterns (drop l.clause-index l.clause-items));
}
