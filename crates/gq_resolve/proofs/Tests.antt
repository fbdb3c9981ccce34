-- The equation of the test that a tree is, with the tree opened by one level.
use Rattle.std.proofs.Common.{◌≡◌, ◌∙◌, ap, Option}
use Rattle.gq_ast.specs.declared.Ast.{Ast, out-Ast, fold_out-Ast}
use Rattle.gq_resolve.proofs.Resolved.{answered, opens}
use Rattle.gq_resolve.specs.PathTests.{PathTest, test_of, test_step}

pub test_out : (t : Ast) → test_of t ≡ test_step (answered test_of (out-Ast t).node)
unfolding test_of
test_out t = fold_out-Ast (Option PathTest) (λ a. test_step a.node) t ∙ ap test_step (opens (Option PathTest) test_of (out-Ast t).node)
