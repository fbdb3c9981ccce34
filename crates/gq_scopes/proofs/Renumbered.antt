-- An expression whose variables are numbered anew, by one level of it; where each keeps its number, it is the expression itself.
use Rattle.std.proofs.Common.{◌≡◌, ◌∙◌, ap, ap₂, sym, refl, subst, ℕ, List, [], ◌∷◌, map}
use Rattle.gq_base.specs.declared.ArithOp.{ArithOp}
use Rattle.gq_base.specs.declared.CompareOp.{CompareOp}
use Rattle.gq_base.specs.declared.Literal.{Literal as Spelled}
use Rattle.gq_expr.proofs.Testers.{testers_map}
use Rattle.gq_expr.specs.steps.Parts.{operand_with, tester_with}
use Rattle.gq_expr.specs.declared.Operand.{Operand}
use Rattle.gq_expr.specs.declared.Expr.{Expr, Expr-F, out-Expr, roll-Expr, map-Expr, fold_out-Expr, fold-roll-Expr, ind-Expr}
use Rattle.gq_expr.specs.declared.Expr.TheShapes.{former-Expr-Test-1}
use Rattle.gq_expr.specs.declared.Expr.TheVariants.{Literal, Node, Rel, NodeProperty, RelProperty, TypeName, Coalesce, Negate, Plus, Not, Or, Xor, And, Compare, Test, Arith, outs-Literal, outs-Node, outs-Rel, outs-NodeProperty, outs-RelProperty, outs-TypeName, outs-Coalesce, outs-Negate, outs-Plus, outs-Not, outs-Or, outs-Xor, outs-And, outs-Compare, outs-Test, outs-Arith}
use Rattle.gq_expr.specs.declared.Tester.{Tester}
use Rattle.gq_expr.specs.declared.Tester.TheVariants as tester
use Rattle.gq_scopes.specs.Renumbering.{renumbered, renumbered_step}

at : (ns rs : ℕ → ℕ) (e : Expr) (l : Expr-F Expr) → out-Expr e ≡ l → renumbered ns rs e ≡ renumbered_step ns rs (map-Expr Expr Expr (renumbered ns rs) l)
unfolding renumbered
at ns rs e l h = fold_out-Expr Expr (renumbered_step ns rs) e ∙ ap (λ x. renumbered_step ns rs (map-Expr Expr Expr (renumbered ns rs) x)) h

pub new_Literal : (ns rs : ℕ → ℕ) (l : Spelled) → renumbered ns rs (Literal l) ≡ Literal l
new_Literal ns rs l = at ns rs (Literal l) (Expr-F.Literal l) (outs-Literal l)

pub new_Node : (ns rs : ℕ → ℕ) (n : ℕ) → renumbered ns rs (Node n) ≡ Node (ns n)
new_Node ns rs n = at ns rs (Node n) (Expr-F.Node n) (outs-Node n)

pub new_Rel : (ns rs : ℕ → ℕ) (n : ℕ) → renumbered ns rs (Rel n) ≡ Rel (rs n)
new_Rel ns rs n = at ns rs (Rel n) (Expr-F.Rel n) (outs-Rel n)

pub new_NodeProperty : (ns rs : ℕ → ℕ) (n : ℕ) (name : List ℕ) → renumbered ns rs (NodeProperty n name) ≡ NodeProperty (ns n) name
new_NodeProperty ns rs n name = at ns rs (NodeProperty n name) (Expr-F.NodeProperty n name) (outs-NodeProperty n name)

pub new_RelProperty : (ns rs : ℕ → ℕ) (n : ℕ) (name : List ℕ) → renumbered ns rs (RelProperty n name) ≡ RelProperty (rs n) name
new_RelProperty ns rs n name = at ns rs (RelProperty n name) (Expr-F.RelProperty n name) (outs-RelProperty n name)

pub new_TypeName : (ns rs : ℕ → ℕ) (e : Expr) → renumbered ns rs (TypeName e) ≡ TypeName (renumbered ns rs e)
new_TypeName ns rs e = at ns rs (TypeName e) (Expr-F.TypeName e) (outs-TypeName e)

pub new_Negate : (ns rs : ℕ → ℕ) (e : Expr) → renumbered ns rs (Negate e) ≡ Negate (renumbered ns rs e)
new_Negate ns rs e = at ns rs (Negate e) (Expr-F.Negate e) (outs-Negate e)

pub new_Plus : (ns rs : ℕ → ℕ) (e : Expr) → renumbered ns rs (Plus e) ≡ Plus (renumbered ns rs e)
new_Plus ns rs e = at ns rs (Plus e) (Expr-F.Plus e) (outs-Plus e)

pub new_Not : (ns rs : ℕ → ℕ) (e : Expr) → renumbered ns rs (Not e) ≡ Not (renumbered ns rs e)
new_Not ns rs e = at ns rs (Not e) (Expr-F.Not e) (outs-Not e)

pub new_Coalesce : (ns rs : ℕ → ℕ) (es : List Expr) → renumbered ns rs (Coalesce es) ≡ Coalesce (map (renumbered ns rs) es)
new_Coalesce ns rs es = at ns rs (Coalesce es) (Expr-F.Coalesce es) (outs-Coalesce es)

pub new_Or : (ns rs : ℕ → ℕ) (es : List Expr) → renumbered ns rs (Or es) ≡ Or (map (renumbered ns rs) es)
new_Or ns rs es = at ns rs (Or es) (Expr-F.Or es) (outs-Or es)

pub new_Xor : (ns rs : ℕ → ℕ) (es : List Expr) → renumbered ns rs (Xor es) ≡ Xor (map (renumbered ns rs) es)
new_Xor ns rs es = at ns rs (Xor es) (Expr-F.Xor es) (outs-Xor es)

pub new_And : (ns rs : ℕ → ℕ) (es : List Expr) → renumbered ns rs (And es) ≡ And (map (renumbered ns rs) es)
new_And ns rs es = at ns rs (And es) (Expr-F.And es) (outs-And es)

pub new_Compare : (ns rs : ℕ → ℕ) (e : Expr) (ts : List (Operand CompareOp Expr)) → renumbered ns rs (Compare e ts) ≡ Compare (renumbered ns rs e) (map (operand_with (renumbered ns rs)) ts)
new_Compare ns rs e ts = at ns rs (Compare e ts) (Expr-F.Compare e ts) (outs-Compare e ts)

pub new_Arith : (ns rs : ℕ → ℕ) (e : Expr) (ts : List (Operand ArithOp Expr)) → renumbered ns rs (Arith e ts) ≡ Arith (renumbered ns rs e) (map (operand_with (renumbered ns rs)) ts)
new_Arith ns rs e ts = at ns rs (Arith e ts) (Expr-F.Arith e ts) (outs-Arith e ts)

pub new_Test : (ns rs : ℕ → ℕ) (e : Expr) (ts : List (Tester Expr)) → renumbered ns rs (Test e ts) ≡ Test (renumbered ns rs e) (map (tester_with (renumbered ns rs)) ts)
new_Test ns rs e ts = at ns rs (Test e ts) (Expr-F.Test e ts) (outs-Test e ts) ∙ ap (Test (renumbered ns rs e)) (sym (testers_map (renumbered ns rs) ts))

-- all of them
pub ruleset equations = (new_Literal, new_Node, new_Rel, new_NodeProperty, new_RelProperty, new_TypeName, new_Coalesce, new_Negate, new_Plus, new_Not, new_Or, new_Xor, new_And, new_Compare, new_Test, new_Arith)

-- ---- each variable keeps its number

abbrev same : Expr → Expr
same = renumbered (λ v. v) (λ x. x)

abbrev Stays : Expr → Type 0
Stays e = same e ≡ e

abbrev Part : Type 0
Part = (e : Expr) × Stays e

parts_stay : (qs : List Part) → map same (map (λ q. q.0) qs) ≡ map (λ q. q.0) qs
parts_stay [] = refl
parts_stay (q ∷ qs) = ap₂ ◌∷◌ q.1 (parts_stay qs)

abbrev first_of : {O : Type 0} → Operand O Part → Operand O Expr
first_of t = record { op = t.op; expr = t.expr.0 }

terms_stay : {O : Type 0} (ts : List (Operand O Part)) → map (operand_with same) (map first_of ts) ≡ map first_of ts
terms_stay [] = refl
terms_stay (t ∷ ts) = ap₂ (λ e rest. record { op = t.op; expr = e } ∷ rest) t.expr.1 (terms_stay ts)

abbrev picked : List (Tester Part) → List (Tester Expr)
picked = former-Expr-Test-1.map Part Expr (λ q. q.0)

abbrev same_in : List (Tester Expr) → List (Tester Expr)
same_in = former-Expr-Test-1.map Expr Expr same

tests_stay : (ts : List (Tester Part)) → same_in (picked ts) ≡ picked ts
tests_stay [] = refl
tests_stay (tester.IsNull ∷ ts) = ap (λ r. tester.IsNull ∷ r) (tests_stay ts)
tests_stay (tester.IsNotNull ∷ ts) = ap (λ r. tester.IsNotNull ∷ r) (tests_stay ts)
tests_stay (tester.Member ls ∷ ts) = ap (λ r. tester.Member ls ∷ r) (tests_stay ts)
tests_stay (tester.Text test q ∷ ts) = ap₂ (λ e r. tester.Text test e ∷ r) q.1 (tests_stay ts)

abbrev seen : Expr-F Part → Expr-F Expr
seen y = map-Expr Part Expr (λ q. q.0) y

level : (y : Expr-F Part) → renumbered_step (λ v. v) (λ x. x) (map-Expr Expr Expr same (seen y)) ≡ roll-Expr (seen y)
unfolding roll-Expr denote.Hole.Carrier.roll
level (Expr-F.Literal l) = refl
level (Expr-F.Node n) = refl
level (Expr-F.Rel n) = refl
level (Expr-F.NodeProperty n name) = refl
level (Expr-F.RelProperty n name) = refl
level (Expr-F.TypeName q) = ap TypeName q.1
level (Expr-F.Coalesce qs) = ap Coalesce (parts_stay qs)
level (Expr-F.Negate q) = ap Negate q.1
level (Expr-F.Plus q) = ap Plus q.1
level (Expr-F.Not q) = ap Not q.1
level (Expr-F.Or qs) = ap Or (parts_stay qs)
level (Expr-F.Xor qs) = ap Xor (parts_stay qs)
level (Expr-F.And qs) = ap And (parts_stay qs)
level (Expr-F.Compare q ts) = ap₂ Compare q.1 (terms_stay ts)
level (Expr-F.Test q ts) = ap₂ Test q.1 (tests_stay ts)
level (Expr-F.Arith q ts) = ap₂ Arith q.1 (terms_stay ts)

same_roll : (x : Expr-F Expr) → same (roll-Expr x) ≡ renumbered_step (λ v. v) (λ x. x) (map-Expr Expr Expr same x)
unfolding renumbered
same_roll = fold-roll-Expr Expr (renumbered_step (λ v. v) (λ x. x))

rolled : (y : Expr-F Part) → Stays (roll-Expr (seen y))
rolled y = same_roll (seen y) ∙ level y

-- an expression whose variables keep their numbers is the same
pub stays : (e : Expr) → renumbered (λ v. v) (λ x. x) e ≡ e
stays = ind-Expr Stays (λ x y is. subst (λ z. Stays (roll-Expr z)) is (rolled y))
