use Rattle.std.proofs.Common.{◌≡◌, ◌++◌, ◌+◌, drop, map}
use Rattle.gq_alternatives.specs.Alternatives.{pattern_alternatives}
use Rattle.gq_bound.specs.Refusals.{alternatives_of, over_limit}
use Rattle.gq_bound.specs.declared.refusal.BindRefusal.TheVariants as refusal
use Rattle.gq_bound.specs.steps.Parts.{own_patterns}
use Rattle.gq_binder.proofs.optionals.clause_choices.Given as goal

abbrev pub invariant-loop-clause : goal.invariant-loop-clause
invariant-loop-clause l = record {
  few : over_limit l.left (alternatives_of l.catalog (own_patterns (drop l.clause-index l.clauses))) refusal.TooManyAlternatives
      ≡ over_limit l.fn.left (alternatives_of l.catalog (own_patterns l.clauses)) refusal.TooManyAlternatives;
  left : l.fn.left + alternatives_of l.catalog (own_patterns (drop l.clause-index l.clauses)) ≡ alternatives_of l.catalog (own_patterns l.clauses) + l.left;
  choices : l.all ++ map (pattern_alternatives l.catalog) (own_patterns (drop l.clause-index l.clauses)) ≡ map (pattern_alternatives l.catalog) (own_patterns l.clauses);
}
