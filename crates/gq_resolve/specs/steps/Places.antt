-- The paths of the EXISTS behind a test, if it has an operand.
use Rattle.std.specs.Prelude.{List, []}
use Rattle.gq_ast.specs.declared.Ast.{Ast}
use Rattle.gq_ast.specs.declared.Tester.{Tester}
use Rattle.gq_ast.specs.declared.Tester.TheVariants as tester
use Rattle.gq_resolve.specs.PathTests.{PathTest}
use Rattle.gq_resolve.specs.Places.{paths_in}

abbrev pub tester_paths : Tester Ast → List PathTest
tester_paths tester.IsNull = []
tester_paths tester.IsNotNull = []
tester_paths (tester.Member ls) = []
tester_paths (tester.Text test e) = paths_in e
