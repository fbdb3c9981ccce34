use Rattle.std.proofs.Common.{◌≡◌, drop}
use Rattle.gq_law_cuts.specs.Cuts.{with_clauses}
use Rattle.gq_core.proofs.trailed.Trailed.push_clauses.Given as goal

abbrev pub invariant-loop-clause : goal.invariant-loop-clause
invariant-loop-clause l = with_clauses l.number (drop l.clause-index l.clauses) l.self ≡ with_clauses 0 l.clauses l.fn.self
