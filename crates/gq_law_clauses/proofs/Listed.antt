-- What covering plans make of the alternatives of optional clauses are the clauses' matches.
use Rattle.std.proofs.Common.{suc, [], ◌∷◌}
use Rattle.gq_law_answers.proofs.Listed.{pattern_planned}
use Rattle.gq_bound.specs.Optionals.{alone}
use Rattle.gq_law_clauses.specs.Laws.{ClausePlansMeanMatches, PlansMeanClauses}
use Rattle.gq_scopes.specs.Patterns.{with_paths}

pub clause_planned : ClausePlansMeanMatches
clause_planned g text number before c part plans real is covers = pattern_planned g (alone c) text real part.alternatives plans is.alternatives is.sound covers

pub clauses_planned : PlansMeanClauses
clauses_planned g text number before [] [] [] real are covers = tt
clauses_planned g text number before [] [] (ps ∷ plans) real are covers = absurd covers
clauses_planned g text number before [] (part ∷ parts) plans real are covers = absurd are
clauses_planned g text number before (c ∷ cs) [] plans real are covers = absurd are
clauses_planned g text number before (c ∷ cs) (part ∷ parts) [] real are covers = absurd covers
clauses_planned g text number before (c ∷ cs) (part ∷ parts) (ps ∷ plans) real are covers = (
  clause_planned g text number before c part ps real are.0 covers.0,
  clauses_planned g text (suc number) (with_paths number c.paths before) cs parts plans real are.1 covers.1,
)
