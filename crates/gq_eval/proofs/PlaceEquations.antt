-- The places of what an expression reads, variant by variant.
use Rattle.std.proofs.Common.{◌≡◌, ℕ, List, [], ◌∷◌, ◌++◌, map, flat_map, append-nil, append_assoc, refl, sym, ap, ◌∙◌}
use Rattle.std.proofs.lemmas.Grind.{flat_map-append}
use Rattle.gq_base.specs.Catalogs.{Tables}
use Rattle.gq_base.specs.declared.operator.ArithOp.{ArithOp}
use Rattle.gq_base.specs.declared.operator.CompareOp.{CompareOp}
use Rattle.gq_base.specs.declared.Literal.{Literal as Spelled}
use Rattle.gq_expr.specs.declared.expr.Expr.{Expr}
use Rattle.gq_expr.specs.declared.expr.Expr.TheVariants.{Literal, Node, Rel, NodeProperty, RelProperty, TypeName, Coalesce, Negate, Plus, Not, Or, Xor, And, Compare, Test, Arith}
use Rattle.gq_expr.specs.declared.expr.Operand.{Operand}
use Rattle.gq_expr.specs.declared.expr.Tester.{Tester}
use Rattle.gq_expr.specs.declared.expr.Tester.TheVariants as tester
use Rattle.gq_expr.proofs.Equations.{equations as meanings}
use Rattle.gq_plan.specs.Reads.{Read, reads}
use Rattle.gq_plan.proofs.ReadEquations.{reads_Literal, reads_Node, reads_Rel, reads_NodeProperty, reads_RelProperty, reads_TypeName, reads_Coalesce, reads_Negate, reads_Plus, reads_Not, reads_Or, reads_Xor, reads_And, term_reads, test_reads, reads_Compare, reads_Arith, reads_Test}
use Rattle.gq_eval.specs.steps.Places.{expr_places, node_places, read_places, rel_places, tester_places}

-- ---- the reads of several parts

places_at : (c : Tables) (e : Expr) (rs : List Read) → reads e ≡ rs → expr_places c e ≡ flat_map (read_places c) rs
unfolding expr_places
places_at c e rs is = ap (flat_map (read_places c)) is

places_same : (c : Tables) (e f : Expr) → reads e ≡ reads f → expr_places c e ≡ expr_places c f
unfolding expr_places
places_same c e f is = ap (flat_map (read_places c)) is

each_part : (c : Tables) (es : List Expr) → flat_map (read_places c) (flat_map reads es) ≡ flat_map (expr_places c) es
unfolding expr_places
each_part c [] = refl
each_part c (e ∷ es) = flat_map-append (read_places c) (reads e) (flat_map reads es) ∙ ap (λ ps. expr_places c e ++ ps) (each_part c es)

each_term : {O : Type 0} (c : Tables) (ts : List (Operand O Expr)) → flat_map (read_places c) (flat_map term_reads ts) ≡ flat_map (λ t. expr_places c t.expr) ts
unfolding expr_places
each_term c [] = refl
each_term c (t ∷ ts) = flat_map-append (read_places c) (reads t.expr) (flat_map term_reads ts) ∙ ap (λ ps. expr_places c t.expr ++ ps) (each_term c ts)

one_test : (c : Tables) (t : Tester Expr) → flat_map (read_places c) (test_reads t) ≡ tester_places c t
unfolding expr_places
one_test c tester.IsNull = refl
one_test c tester.IsNotNull = refl
one_test c (tester.Member ls) = refl
one_test c (tester.Text test e) = refl

each_test : (c : Tables) (ts : List (Tester Expr)) → flat_map (read_places c) (flat_map test_reads ts) ≡ flat_map (tester_places c) ts
each_test c [] = refl
each_test c (t ∷ ts) =
    flat_map-append (read_places c) (test_reads t) (flat_map test_reads ts)
    ∙ ap (λ ps. ps ++ flat_map (read_places c) (flat_map test_reads ts)) (one_test c t)
    ∙ ap (λ ps. tester_places c t ++ ps) (each_test c ts)

behind_first : (c : Tables) (e f : Expr) (rs : List Read) (ps : List ℕ) → reads e ≡ reads f ++ rs → flat_map (read_places c) rs ≡ ps → expr_places c e ≡ expr_places c f ++ ps
unfolding expr_places
behind_first c e f rs ps is more =
    ap (flat_map (read_places c)) is
    ∙ flat_map-append (read_places c) (reads f) rs
    ∙ ap (λ qs. flat_map (read_places c) (reads f) ++ qs) more

-- ---- variants

pub places_Literal : (c : Tables) (l : Spelled) → expr_places c (Literal l) ≡ []
places_Literal c l = places_at c (Literal l) _ (reads_Literal l)

pub places_Node : (c : Tables) (n : ℕ) → expr_places c (Node n) ≡ []
places_Node c n = places_at c (Node n) _ (reads_Node n)

pub places_Rel : (c : Tables) (n : ℕ) → expr_places c (Rel n) ≡ []
places_Rel c n = places_at c (Rel n) _ (reads_Rel n)

pub places_NodeProperty : (c : Tables) (n : ℕ) (name : List ℕ) → expr_places c (NodeProperty n name) ≡ node_places c name
places_NodeProperty c n name = places_at c (NodeProperty n name) _ (reads_NodeProperty n name) ∙ append-nil (node_places c name)

pub places_RelProperty : (c : Tables) (n : ℕ) (name : List ℕ) → expr_places c (RelProperty n name) ≡ rel_places c name
places_RelProperty c n name = places_at c (RelProperty n name) _ (reads_RelProperty n name) ∙ append-nil (rel_places c name)

pub places_TypeName : (c : Tables) (e : Expr) → expr_places c (TypeName e) ≡ expr_places c e
places_TypeName c e = places_same c (TypeName e) e (reads_TypeName e)

pub places_Negate : (c : Tables) (e : Expr) → expr_places c (Negate e) ≡ expr_places c e
places_Negate c e = places_same c (Negate e) e (reads_Negate e)

pub places_Plus : (c : Tables) (e : Expr) → expr_places c (Plus e) ≡ expr_places c e
places_Plus c e = places_same c (Plus e) e (reads_Plus e)

pub places_Not : (c : Tables) (e : Expr) → expr_places c (Not e) ≡ expr_places c e
places_Not c e = places_same c (Not e) e (reads_Not e)

pub places_Coalesce : (c : Tables) (es : List Expr) → expr_places c (Coalesce es) ≡ flat_map (expr_places c) es
places_Coalesce c es = places_at c (Coalesce es) _ (reads_Coalesce es) ∙ each_part c es

pub places_Or : (c : Tables) (es : List Expr) → expr_places c (Or es) ≡ flat_map (expr_places c) es
places_Or c es = places_at c (Or es) _ (reads_Or es) ∙ each_part c es

pub places_Xor : (c : Tables) (es : List Expr) → expr_places c (Xor es) ≡ flat_map (expr_places c) es
places_Xor c es = places_at c (Xor es) _ (reads_Xor es) ∙ each_part c es

pub places_And : (c : Tables) (es : List Expr) → expr_places c (And es) ≡ flat_map (expr_places c) es
places_And c es = places_at c (And es) _ (reads_And es) ∙ each_part c es

pub places_Compare : (c : Tables) (e : Expr) (ts : List (Operand CompareOp Expr)) → expr_places c (Compare e ts) ≡ expr_places c e ++ flat_map (λ t. expr_places c t.expr) ts
places_Compare c e ts = behind_first c (Compare e ts) e (flat_map term_reads ts) _ (reads_Compare e ts) (each_term c ts)

pub places_Test : (c : Tables) (e : Expr) (ts : List (Tester Expr)) → expr_places c (Test e ts) ≡ expr_places c e ++ flat_map (tester_places c) ts
places_Test c e ts = behind_first c (Test e ts) e (flat_map test_reads ts) _ (reads_Test e ts) (each_test c ts)

pub places_Arith : (c : Tables) (e : Expr) (ts : List (Operand ArithOp Expr)) → expr_places c (Arith e ts) ≡ expr_places c e ++ flat_map (λ t. expr_places c t.expr) ts
places_Arith c e ts = behind_first c (Arith e ts) e (flat_map term_reads ts) _ (reads_Arith e ts) (each_term c ts)

-- all of them
pub ruleset equations = (places_Literal, places_Node, places_Rel, places_NodeProperty, places_RelProperty, places_TypeName, places_Coalesce, places_Negate, places_Plus, places_Not, places_Or, places_Xor, places_And, places_Compare, places_Test, places_Arith)

-- what it takes to gather places from left to right
pub ruleset gathering = (append-nil, append_assoc)

-- what variants mean, and the places that they have
pub ruleset evaluating = (meanings, equations)
