-- Without trails all variables of a query are its core's.
use Rattle.std.proofs.Common.{◌≡◌, ℕ, ◌≤◌, List, length, take, ap, arith}
use Rattle.std.proofs.lemmas.List.{length-take}
use Rattle.gq_ast.specs.declared.Clause.{Clause}
use Rattle.gq_scopes.specs.Patterns.{Pattern, pattern_of}
use Rattle.gq_law_cuts.proofs.Plain.{plain_cuts}
use Rattle.gq_law_cuts.specs.Cuts.{core_size, cored_of}
use Rattle.gq_law_cuts.specs.Plain.{HaveNoTrail}

pub size_is : (clauses : List Clause) → HaveNoTrail clauses → length (pattern_of clauses).names ≤ core_size clauses
size_is clauses none =
    let k : ℕ = core_size clauses in
    let p : Pattern = (cored_of clauses).pattern in
    let same : length (take k p.names) ≡ length (pattern_of clauses).names = ap (λ (q : Pattern). length q.names) (plain_cuts clauses none).2 in
    omega (arith, length-take k p.names, same)
