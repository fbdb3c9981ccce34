-- The conjuncts of a condition as they are listed, each with its source text as its name: those of values, and the tests of paths.
use Rattle.std.specs.Prelude.{ℕ, Bool, not, is_some, List, Option, map, filter, filter_map}
use Rattle.std.specs.Option.{option_map}
use Rattle.gq_plan.specs.declared.NamedExpr.{NamedExpr}
use Rattle.gq_resolve.specs.PathTests.{PathTest}
use Rattle.gq_resolve.specs.Resolving.{Conjunct}
use Rattle.gq_ast.specs.Sources.{source_text}

abbrev pub conjunct_expr : List ℕ → Conjunct → Option NamedExpr
conjunct_expr text c = option_map (λ e. record { name = source_text text c.span; expr = e }) c.expr

-- what is no test of a path
abbrev pub is_value : Conjunct → Bool
is_value c = not (is_some c.test)

-- a test and what it is called
pub record NamedTest : Type 0 where
  pub name : List ℕ
  pub test : PathTest

abbrev pub named_test : List ℕ → Conjunct → Option NamedTest
named_test text c = option_map (λ t. record { name = source_text text c.span; test = t }) c.test

-- the expressions of the values, of those that stand for one
abbrev pub values_of : List ℕ → List Conjunct → List (Option NamedExpr)
values_of text cs = map (conjunct_expr text) (filter is_value cs)

abbrev pub tests_of : List ℕ → List Conjunct → List NamedTest
tests_of text cs = filter_map (named_test text) cs
