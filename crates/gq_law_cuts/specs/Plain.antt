-- The laws that a query without trails has its patterns as they are read, numbered in the order of first appearance, that all of them are
-- its core, and that the core's alternatives are then those of the patterns.
use Rattle.std.specs.Prelude.{◌≡◌, Bool, true, None, List, []}
use Rattle.std.specs.List.{AllByRecursion}
use Rattle.gq_base.specs.Catalogs.{Tables}
use Rattle.gq_alternatives.specs.Alternatives.{Choice, typed_of}
use Rattle.gq_plan.specs.declared.NamedExpr.{NamedExpr}
use Rattle.gq_scopes.specs.Patterns.{Pattern, pattern_of}
use Rattle.gq_ast.specs.declared.Clause.{Clause}
use Rattle.gq_ast.specs.declared.Hop.{Hop}
use Rattle.gq_ast.specs.declared.Path.{Path}
use Rattle.gq_law_cuts.specs.Cuts.{core_of, core_size, cored_of}
use Rattle.gq_law_cuts.specs.Typing.{core_typed}

-- no relationship of clauses is a trail
abbrev pub HaveNoTrail : List Clause → Type 0
HaveNoTrail cs =
    AllByRecursion (λ (c : Clause). AllByRecursion (λ (path : Path). AllByRecursion (λ (h : Hop). h.rel.trail ≡ None) path.hops) c.paths) cs

abbrev pub PlainCuts : Type 0
PlainCuts =
    (clauses : List Clause) → HaveNoTrail clauses
    → ((cored_of clauses).pattern ≡ pattern_of clauses) × ((cored_of clauses).trails ≡ [])
    × (core_of (core_size clauses) (cored_of clauses).pattern ≡ pattern_of clauses)

-- where all conjuncts stay in the core, its alternatives are as those of the pattern
abbrev pub PlainTyped : Type 0
PlainTyped =
    (catalog : Tables) (p : Pattern) (stays : NamedExpr → Bool) (entries conjuncts : List NamedExpr) (c : Choice)
    → AllByRecursion (λ e. stays e ≡ true) conjuncts
    → core_typed catalog p stays entries conjuncts c ≡ typed_of catalog p entries conjuncts c
