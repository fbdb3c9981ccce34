-- Tests of paths in conditions.
use Rattle.std.specs.Prelude.{Bool, true, not, Option, Some, None}
use Rattle.std.specs.Option.{option_map}
use Rattle.gq_ast.specs.declared.Ast.{Ast, fold-Ast}
use Rattle.gq_ast.specs.declared.AstNode.{AstNode}
use Rattle.gq_ast.specs.declared.AstNode.TheVariants as ast
use Rattle.gq_ast.specs.declared.Path.{Path}

-- a test whether a path has a match, or whether it has none
pub record PathTest : Type 0 where
  pub path : Path
  pub wanted : Bool

abbrev pub negated : PathTest → PathTest
negated t = record t { wanted = not t.wanted }

-- one level of a tree, by the tests that its parts are
abbrev pub test_step : AstNode (Option PathTest) → Option PathTest
test_step (ast.Exists path) = Some (record { path = path; wanted = true })
test_step (ast.Paren t) = t
test_step (ast.Not t) = option_map negated t
test_step node = None

-- an EXISTS, alone or inside parentheses and NOTs alone, is a test
unfoldable pub test_of : Ast → Option PathTest
test_of = fold-Ast (Option PathTest) (λ a. test_step a.node)
