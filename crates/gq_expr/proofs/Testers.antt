-- A list of tests with their operands' answers is what the type's own map makes of it.
use Rattle.std.proofs.Common.{◌≡◌, ap, refl, List, [], ◌∷◌, map}
use Rattle.gq_expr.specs.steps.Parts.{tester_with}
use Rattle.gq_expr.specs.declared.expr.Expr.{Expr}
use Rattle.gq_expr.specs.declared.expr.Expr.TheShapes.{former-Expr-Test-1}
use Rattle.gq_expr.specs.declared.expr.Tester.{Tester}
use Rattle.gq_expr.specs.declared.expr.Tester.TheVariants as tester

pub testers_map : {A : Type 0} (go : Expr → A) (ts : List (Tester Expr)) → map (tester_with go) ts ≡ former-Expr-Test-1.map Expr A go ts
testers_map go [] = refl
testers_map go (tester.IsNull ∷ ts) = ap (λ r. tester.IsNull ∷ r) (testers_map go ts)
testers_map go (tester.IsNotNull ∷ ts) = ap (λ r. tester.IsNotNull ∷ r) (testers_map go ts)
testers_map go (tester.Member ls ∷ ts) = ap (λ r. tester.Member ls ∷ r) (testers_map go ts)
testers_map go (tester.Text test e ∷ ts) = ap (λ r. tester.Text test (go e) ∷ r) (testers_map go ts)
