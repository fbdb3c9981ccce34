-- What expressions read, variant by variant.
use Rattle.std.proofs.Common.{◌≡◌, ℕ, List, [], ◌∷◌, ◌++◌, map, flat_map, refl, sym, ap, ◌∙◌, append_assoc}
use Rattle.gq_plan.specs.declared.variable.Variable.TheVariants.{Node as node, Rel as rel}
use Rattle.std.proofs.lemmas.List.Folds.{flat_map-map}
use Rattle.gq_base.specs.declared.ArithOp.{ArithOp}
use Rattle.gq_base.specs.declared.CompareOp.{CompareOp}
use Rattle.gq_base.specs.declared.Literal.{Literal as Spelled}
use Rattle.gq_expr.proofs.Testers.{testers_map}
use Rattle.gq_expr.specs.steps.Parts.{operand_with, tester_with}
use Rattle.gq_expr.specs.declared.Operand.{Operand}
use Rattle.gq_expr.specs.declared.Expr.{Expr, Expr-F, out-Expr, map-Expr, fold_out-Expr}
use Rattle.gq_expr.specs.declared.Expr.TheVariants.{Literal, Node, Rel, NodeProperty, RelProperty, TypeName, Coalesce, Negate, Plus, Not, Or, Xor, And, Compare, Test, Arith, outs-Literal, outs-Node, outs-Rel, outs-NodeProperty, outs-RelProperty, outs-TypeName, outs-Coalesce, outs-Negate, outs-Plus, outs-Not, outs-Or, outs-Xor, outs-And, outs-Compare, outs-Test, outs-Arith}
use Rattle.gq_expr.specs.declared.Tester.{Tester}
use Rattle.gq_plan.specs.Reads.{Read, reads, reads_step, tester_reads, whole, property}

-- ---- variants

reads_at : (e : Expr) (l : Expr-F Expr) → out-Expr e ≡ l → reads e ≡ reads_step (map-Expr Expr (List Read) reads l)
unfolding reads
reads_at e l h = fold_out-Expr (List Read) reads_step e ∙ ap (λ x. reads_step (map-Expr Expr (List Read) reads x)) h

pub reads_Literal : (l : Spelled) → reads (Literal l) ≡ []
reads_Literal l = reads_at (Literal l) (Expr-F.Literal l) (outs-Literal l)

pub reads_Node : (n : ℕ) → reads (Node n) ≡ whole (node n) ∷ []
reads_Node n = reads_at (Node n) (Expr-F.Node n) (outs-Node n)

pub reads_Rel : (n : ℕ) → reads (Rel n) ≡ whole (rel n) ∷ []
reads_Rel n = reads_at (Rel n) (Expr-F.Rel n) (outs-Rel n)

pub reads_NodeProperty : (n : ℕ) (k : List ℕ) → reads (NodeProperty n k) ≡ property (node n) k ∷ []
reads_NodeProperty n k = reads_at (NodeProperty n k) (Expr-F.NodeProperty n k) (outs-NodeProperty n k)

pub reads_RelProperty : (n : ℕ) (k : List ℕ) → reads (RelProperty n k) ≡ property (rel n) k ∷ []
reads_RelProperty n k = reads_at (RelProperty n k) (Expr-F.RelProperty n k) (outs-RelProperty n k)

pub reads_TypeName : (e : Expr) → reads (TypeName e) ≡ reads e
reads_TypeName e = reads_at (TypeName e) (Expr-F.TypeName e) (outs-TypeName e)

pub reads_Negate : (e : Expr) → reads (Negate e) ≡ reads e
reads_Negate e = reads_at (Negate e) (Expr-F.Negate e) (outs-Negate e)

pub reads_Plus : (e : Expr) → reads (Plus e) ≡ reads e
reads_Plus e = reads_at (Plus e) (Expr-F.Plus e) (outs-Plus e)

pub reads_Not : (e : Expr) → reads (Not e) ≡ reads e
reads_Not e = reads_at (Not e) (Expr-F.Not e) (outs-Not e)

together : (es : List Expr) → flat_map (λ rs. rs) (map reads es) ≡ flat_map reads es
together es = flat_map-map (λ (rs : List Read). rs) reads es

pub reads_Coalesce : (es : List Expr) → reads (Coalesce es) ≡ flat_map reads es
reads_Coalesce es = reads_at (Coalesce es) (Expr-F.Coalesce es) (outs-Coalesce es) ∙ together es

pub reads_Or : (es : List Expr) → reads (Or es) ≡ flat_map reads es
reads_Or es = reads_at (Or es) (Expr-F.Or es) (outs-Or es) ∙ together es

pub reads_Xor : (es : List Expr) → reads (Xor es) ≡ flat_map reads es
reads_Xor es = reads_at (Xor es) (Expr-F.Xor es) (outs-Xor es) ∙ together es

pub reads_And : (es : List Expr) → reads (And es) ≡ flat_map reads es
reads_And es = reads_at (And es) (Expr-F.And es) (outs-And es) ∙ together es

-- what an operator's operand reads, and what a test's does
abbrev pub term_reads : {O : Type 0} → Operand O Expr → List Read
term_reads t = reads t.expr

abbrev pub test_reads : Tester Expr → List Read
test_reads t = tester_reads (tester_with reads t)

terms_together : {O : Type 0} (ts : List (Operand O Expr)) → flat_map (λ t. t.expr) (map (operand_with reads) ts) ≡ flat_map term_reads ts
terms_together [] = refl
terms_together (t ∷ ts) = ap (λ rs. reads t.expr ++ rs) (terms_together ts)

pub reads_Compare : (e : Expr) (ts : List (Operand CompareOp Expr)) → reads (Compare e ts) ≡ reads e ++ flat_map term_reads ts
reads_Compare e ts = reads_at (Compare e ts) (Expr-F.Compare e ts) (outs-Compare e ts) ∙ ap (λ rs. reads e ++ rs) (terms_together ts)

pub reads_Arith : (e : Expr) (ts : List (Operand ArithOp Expr)) → reads (Arith e ts) ≡ reads e ++ flat_map term_reads ts
reads_Arith e ts = reads_at (Arith e ts) (Expr-F.Arith e ts) (outs-Arith e ts) ∙ ap (λ rs. reads e ++ rs) (terms_together ts)

pub reads_Test : (e : Expr) (ts : List (Tester Expr)) → reads (Test e ts) ≡ reads e ++ flat_map test_reads ts
reads_Test e ts =
    reads_at (Test e ts) (Expr-F.Test e ts) (outs-Test e ts)
    ∙ ap (λ us. reads e ++ flat_map tester_reads us) (sym (testers_map reads ts))
    ∙ ap (λ rs. reads e ++ rs) (flat_map-map tester_reads (tester_with reads) ts)

-- all of them
pub ruleset equations = (append_assoc, reads_Literal, reads_Node, reads_Rel, reads_NodeProperty, reads_RelProperty, reads_TypeName, reads_Coalesce, reads_Negate, reads_Plus, reads_Not, reads_Or, reads_Xor, reads_And, reads_Compare, reads_Test, reads_Arith)
