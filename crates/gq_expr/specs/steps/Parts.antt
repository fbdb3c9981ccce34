-- The parts of an expression's lists, with an answer in the place of each operand.
use Rattle.gq_expr.specs.declared.expr.Operand.{Operand}
use Rattle.gq_expr.specs.declared.expr.Expr.{Expr}
use Rattle.gq_expr.specs.declared.expr.Tester.{Tester}
use Rattle.gq_expr.specs.declared.expr.Tester.TheVariants as tester

-- an operator with the answer of its operand
abbrev pub operand_with : {O A : Type 0} → (Expr → A) → Operand O Expr → Operand O A
operand_with go t = record { op = t.op; expr = go t.expr }

-- a test with the answer of its operand, if it has one
abbrev pub tester_with : {A : Type 0} → (Expr → A) → Tester Expr → Tester A
tester_with go tester.IsNull = tester.IsNull
tester_with go tester.IsNotNull = tester.IsNotNull
tester_with go (tester.Member ls) = tester.Member ls
tester_with go (tester.Text test e) = tester.Text test (go e)
