-- The conjuncts of conditions as they are listed, one condition after another.
use Rattle.std.specs.Prelude.{ℕ, List, ◌++◌, Option, flat_map}
use Rattle.std.specs.Option.{option_map}
use Rattle.gq_plan.specs.declared.NamedExpr.{NamedExpr}
use Rattle.gq_ast.specs.declared.Ast.{Ast, out-Ast}
use Rattle.gq_resolve.specs.Conjuncts.{NamedTest, tests_of, values_of}
use Rattle.gq_resolve.specs.PathTests.{test_of}
use Rattle.gq_resolve.specs.Resolving.{Conjunct, functions, resolved, split, all_some}
use Rattle.gq_resolve.specs.declared.conjuncts.Conjuncts.{Conjuncts}
use Rattle.gq_scopes.specs.Scopes.{Scope}

-- a condition that is one conjunct
abbrev pub whole_conjunct : Scope → Ast → Conjunct
whole_conjunct s t = record { span = (out-Ast t).span; expr = resolved functions s t; test = test_of t }

-- the conjuncts of several conditions together
abbrev pub conjuncts_in : Scope → List Ast → List Conjunct
conjuncts_in s ts = flat_map (λ t. (split functions s t).conjuncts) ts

-- values, where they stand for expressions, and tests behind those that stand already
abbrev pub joined_to : Conjuncts → Option (List NamedExpr) → List NamedTest → Option Conjuncts
joined_to before es ts = option_map (λ vs. record { values = before.values ++ vs; tests = before.tests ++ ts }) es

-- conjuncts behind those that stand already, where all values stand for an expression
abbrev pub listed_behind : Conjuncts → List ℕ → List Conjunct → Option Conjuncts
listed_behind before text cs = joined_to before (all_some (values_of text cs)) (tests_of text cs)
