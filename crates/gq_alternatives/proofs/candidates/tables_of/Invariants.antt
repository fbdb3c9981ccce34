use Rattle.std.proofs.Common.{◌≡◌}
use Rattle.gq_alternatives.specs.Candidates.{tables_of}
use Rattle.gq_alternatives.proofs.candidates.tables_of.Given as goal

abbrev pub invariant-loop : goal.invariant-loop
invariant-loop l = record { variable : l.variable ≡ l.counter; lists : l.lists ≡ tables_of l.catalog l.patterns l.counter }
