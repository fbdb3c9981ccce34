-- The operands of an expression at one level, and what a walk over all its levels makes of it.
use Rattle.std.specs.Prelude.{Option, Some, None, List, [], ◌∷◌, map}
use Rattle.gq_expr.specs.declared.Operand.{Operand}
use Rattle.gq_expr.specs.declared.Expr.{Expr, Expr-F, out-Expr, fold-Expr}
use Rattle.gq_expr.specs.declared.Tester.{Tester}
use Rattle.gq_expr.specs.declared.Tester.TheVariants as tester

-- the operand of a test, if it has one
abbrev pub test_operand : {A : Type 0} → Tester A → Option A
test_operand tester.IsNull = None
test_operand tester.IsNotNull = None
test_operand (tester.Member ls) = None
test_operand (tester.Text test e) = Some e

abbrev pub list_places : {A : Type 0} → List A → List (Option A)
list_places es = map (λ e. Some e) es

abbrev pub term_places : {O A : Type 0} → List (Operand O A) → List (Option A)
term_places ts = map (λ t. Some t.expr) ts

abbrev pub test_places : {A : Type 0} → List (Tester A) → List (Option A)
test_places ts = map test_operand ts

-- the places of the operands in text order: a test has a place, and may have no operand there
abbrev pub places : {A : Type 0} → Expr-F A → List (Option A)
places (Expr-F.TypeName e) = Some e ∷ []
places (Expr-F.Coalesce es) = list_places es
places (Expr-F.Negate e) = Some e ∷ []
places (Expr-F.Plus e) = Some e ∷ []
places (Expr-F.Not e) = Some e ∷ []
places (Expr-F.Or es) = list_places es
places (Expr-F.Xor es) = list_places es
places (Expr-F.And es) = list_places es
places (Expr-F.Compare e ts) = Some e ∷ term_places ts
places (Expr-F.Test e ts) = Some e ∷ test_places ts
places (Expr-F.Arith e ts) = Some e ∷ term_places ts
places level = []

-- what the function at each place gives for the operand at this place
abbrev pub at_places : {A : Type 0} → List (Option (Expr → A)) → List (Option Expr) → List (Option A)
at_places (Some f ∷ fs) (Some e ∷ es) = Some (f e) ∷ at_places fs es
at_places (f ∷ fs) (e ∷ es) = None ∷ at_places fs es
at_places fs es = []

-- what is made of an expression and of what its operands gave
abbrev pub Step : Type 0 → Type 0
Step A = Expr → List (Option A) → A

abbrev pub walk_step : {A : Type 0} → Step A → Expr-F (Expr → A) → Expr → A
walk_step step level e = step e (at_places (places level) (places (out-Expr e)))

-- a step at every level of an expression, from the innermost on
unfoldable pub walk : {A : Type 0} → Step A → Expr → A
walk {A} step e = fold-Expr (Expr → A) (walk_step step) e e
