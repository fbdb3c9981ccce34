-- The parts of a tree's lists, with an answer in the place of each operand.
use Rattle.gq_ast.specs.declared.Ast.{Ast}
use Rattle.gq_ast.specs.declared.Term.{Term}
use Rattle.gq_ast.specs.declared.Tester.{Tester}
use Rattle.gq_ast.specs.declared.Tester.TheVariants as tester

-- an operator with the answer of its operand
abbrev pub term_with : {O A : Type 0} → (Ast → A) → Term O Ast → Term O A
term_with go t = record { op = t.op; tree = go t.tree }

-- a test with the answer of its operand, if it has one
abbrev pub tester_with : {A : Type 0} → (Ast → A) → Tester Ast → Tester A
tester_with go tester.IsNull = tester.IsNull
tester_with go tester.IsNotNull = tester.IsNotNull
tester_with go (tester.Member ls) = tester.Member ls
tester_with go (tester.Text test e) = tester.Text test (go e)
