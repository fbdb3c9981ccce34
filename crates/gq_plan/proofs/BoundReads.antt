-- Whether all that an expression reads is bound, of some forms of expressions.
use Rattle.std.proofs.Common.{◌≡◌, ◌∙◌, ap, ℕ, Bool, true, false, refl, ◌&&◌, List, [], ◌∷◌, ◌++◌, flat_map}
use Rattle.std.specs.List.{list_all}
use Rattle.std.proofs.lemmas.List.Folds.{list_all-append}
use Rattle.gq_base.specs.declared.CompareOp.{CompareOp}
use Rattle.gq_base.specs.declared.Literal.{Literal as Spelled}
use Rattle.gq_expr.specs.declared.Operand.{Operand}
use Rattle.gq_expr.specs.declared.Expr.{Expr}
use Rattle.gq_expr.specs.declared.Expr.TheVariants.{Literal, NodeProperty, Compare}
use Rattle.gq_plan.specs.Known.{Known, is_bound, reads_bound}
use Rattle.gq_plan.specs.Reads.{Read}
use Rattle.gq_plan.proofs.ReadEquations.{reads_Literal, reads_NodeProperty, reads_Compare, term_reads}

-- all of some reads are bound
abbrev all_bound : Known → List Read → Bool
all_bound k rs = list_all (λ r. is_bound k r.variable) rs

and_true : (b : Bool) → (b && true) ≡ b
and_true true = refl
and_true false = refl

all_append : (k : Known) (qs rs : List Read) → all_bound k (qs ++ rs) ≡ (all_bound k qs && all_bound k rs)
all_append k qs rs = list_all-append (λ r. is_bound k r.variable) qs rs

terms_bound : {O : Type 0} (k : Known) (ts : List (Operand O Expr)) → all_bound k (flat_map term_reads ts) ≡ list_all (λ t. reads_bound k t.expr) ts
terms_bound k [] = refl
terms_bound k (t ∷ ts) = all_append k (term_reads t) (flat_map term_reads ts) ∙ ap (λ b. reads_bound k t.expr && b) (terms_bound k ts)

pub bound_Literal : (k : Known) (l : Spelled) → reads_bound k (Literal l) ≡ true
bound_Literal k l = ap (all_bound k) (reads_Literal l)

pub bound_NodeProperty : (k : Known) (n : ℕ) (name : List ℕ) → reads_bound k (NodeProperty n name) ≡ k.nodes n
bound_NodeProperty k n name = ap (all_bound k) (reads_NodeProperty n name) ∙ and_true (k.nodes n)

pub bound_Compare : (k : Known) (e : Expr) (ts : List (Operand CompareOp Expr)) → reads_bound k (Compare e ts) ≡ (reads_bound k e && list_all (λ t. reads_bound k t.expr) ts)
bound_Compare k e ts = ap (all_bound k) (reads_Compare e ts) ∙ all_append k _ _ ∙ ap (λ b. reads_bound k e && b) (terms_bound k ts)
