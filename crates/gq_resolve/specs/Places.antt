-- The paths of the EXISTS of an expression, and those that stand in a condition elsewhere than as a whole conjunct, alone or inside
-- parentheses and NOTs alone.
use Rattle.std.specs.Prelude.{is_some, List, [], ◌∷◌, flat_map, true, if◌then◌else◌}
use Rattle.gq_ast.specs.declared.Ast.{Ast, Ast-F, roll-Ast, map-Ast, fold-Ast}
use Rattle.gq_ast.specs.declared.AstNode.{AstNode}
use Rattle.gq_ast.specs.declared.AstNode.TheVariants as ast
use Rattle.gq_resolve.specs.PathTests.{PathTest, test_of}
use Rattle.gq_resolve.specs.Uses.{Use, exists, uses}

-- the path of an EXISTS, as a test whether it has a match
abbrev pub use_paths : Use → List PathTest
use_paths (exists path) = record { path = path; wanted = true } ∷ []
use_paths u = []

-- those of a tree, in text order
abbrev pub paths_in : Ast → List PathTest
paths_in tree = flat_map use_paths (uses tree)

-- those of a conjunct that is no test of a path
abbrev pub untested : Ast → List PathTest
untested tree = if is_some (test_of tree) then [] else paths_in tree

-- a condition, and what is stray in it
pub record Condition : Type 0 where
  pub tree : Ast
  pub strays : List PathTest

-- what is in the members of an AND, within parentheses, or in one conjunct
abbrev pub strays_in : AstNode Condition → Ast → List PathTest
strays_in (ast.And all) whole = flat_map (λ part. part.strays) all
strays_in (ast.Paren inner) whole = inner.strays
strays_in node whole = untested whole

abbrev pub condition_step : Ast-F Condition → Condition
condition_step a =
    let whole : Ast = roll-Ast (map-Ast Condition Ast (λ part. part.tree) a) in
    record { tree = whole; strays = strays_in a.node whole }

unfoldable pub strays : Ast → List PathTest
strays t = (fold-Ast Condition condition_step t).strays
