-- The law that the alternatives of a query's core are sound where its tests are.
use Rattle.std.specs.Prelude.{◌≡◌, ◌≤◌, Bool, true, false, All, List, length}
use Rattle.gq_base.specs.Catalogs.{Tables}
use Rattle.gq_expr.specs.Kinds.{can_fault}
use Rattle.gq_alternatives.specs.Alternatives.{Choice, agrees}
use Rattle.gq_alternatives.specs.Choices.{IsChoice}
use Rattle.gq_plan.specs.Reads.{distinct, properties}
use Rattle.gq_plan.specs.Soundness.{HasVariable, IsSound, kinds_of, max_reads, max_variables, test_reads}
use Rattle.gq_plan.specs.declared.NamedExpr.{NamedExpr}
use Rattle.gq_plan.specs.declared.Typed.{Typed}
use Rattle.gq_scopes.specs.Patterns.{Pattern}
use Rattle.gq_ast.specs.declared.Clause.{Clause}
use Rattle.gq_law_cuts.specs.Cuts.{core_of, core_size, cored_of}
use Rattle.gq_law_cuts.specs.Typing.{core_typed}

-- the tests of an alternative read its variables alone, not too many properties of them, and cannot fault
pub record AreFit (catalog : Tables) (y : Typed) : Type 0 where
  pub names : All (λ r. HasVariable y r.variable) (test_reads y)
  pub few : length (distinct (properties (test_reads y))) ≤ max_reads
  pub never_fault : All (λ t. can_fault (kinds_of catalog y) t.expr ≡ false) y.tests

-- the pattern of the core that MATCH clauses have
abbrev pub core_pattern_of : List Clause → Pattern
core_pattern_of clauses = core_of (core_size clauses) (cored_of clauses).pattern

-- an alternative of the core that agrees with the catalogue, with not too many patterns, is sound where its tests fit
abbrev pub CoresAreSound : Type 0
CoresAreSound =
    (catalog : Tables) (clauses : List Clause) (stays : NamedExpr → Bool) (entries conjuncts : List NamedExpr) (c : Choice)
    → length (core_pattern_of clauses).nodes ≤ max_variables → length (core_pattern_of clauses).rels ≤ max_variables
    → IsChoice catalog (length (core_pattern_of clauses).names) (length (core_pattern_of clauses).rels) c → agrees catalog (core_pattern_of clauses) c ≡ true
    → AreFit catalog (core_typed catalog (core_pattern_of clauses) stays entries conjuncts c)
    → IsSound catalog (core_typed catalog (core_pattern_of clauses) stays entries conjuncts c)
