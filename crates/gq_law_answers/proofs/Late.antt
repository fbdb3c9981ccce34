-- The conjuncts that cannot fault and those that may are all the conjuncts.
use Rattle.std.proofs.Common.{◌≡◌, ℕ, zero, suc, ◌+◌, Bool, true, false, not, ◌&&◌, Option, Some, List, [], ◌∷◌, filter, slice_get, if◌then◌else◌, refl, sym, ap, ◌∙◌, arith, add-zero}
use Rattle.std.specs.List.{list_all}
use Rattle.gq_expr.specs.Kinds.{can_fault}
use Rattle.gq_expr.specs.declared.Kinds.{Kinds}
use Rattle.gq_plan.specs.Meaning.{holds}
use Rattle.gq_plan.specs.declared.NamedExpr.{NamedExpr}
use Rattle.gq_alternatives.specs.Alternatives.{late_from}

late_bits : (a b c d : Bool) → (b && d) ≡ c → (b && (a && d)) ≡ (a && c)
late_bits true b c d e = e
late_bits false true c d e = refl
late_bits false false c d e = refl

early_bits : (a b c d : Bool) → (b && d) ≡ c → ((a && b) && d) ≡ (a && c)
early_bits true b c d e = e
early_bits false b c d e = refl

module _ (kinds : Kinds) (q : NamedExpr → Bool) (at : ℕ → Option NamedExpr) where
  abbrev early : List NamedExpr → List NamedExpr
  early cs = filter (λ e. not (can_fault kinds e.expr)) cs

  abbrev late : ℕ → List NamedExpr → Bool
  late number cs = list_all (λ i. holds q (at i)) (late_from kinds number cs)

  parted : (number : ℕ) (cs : List NamedExpr) → ((k : ℕ) → at (number + k) ≡ slice_get cs k) → (list_all q (early cs) && late number cs) ≡ list_all q cs
  parted number [] is = refl
  parted number (c ∷ cs) is =
      go (can_fault kinds c.expr) (ap at (sym (add-zero number)) ∙ is zero)
      (parted (suc number) cs (λ k. let same : suc number + k ≡ number + suc k = omega arith in ap at same ∙ is (suc k)))
    where
      go : (b : Bool) → at number ≡ Some c → (list_all q (early cs) && late (suc number) cs) ≡ list_all q cs
          → (list_all q (if not b then c ∷ early cs else early cs) && list_all (λ i. holds q (at i)) (if b then number ∷ late_from kinds (suc number) cs else late_from kinds (suc number) cs)) ≡ (q c && list_all q cs)
      go true here more =
          ap (λ o. list_all q (early cs) && (holds q o && late (suc number) cs)) here
          ∙ late_bits (q c) (list_all q (early cs)) (list_all q cs) (late (suc number) cs) more
      go false here more = early_bits (q c) (list_all q (early cs)) (list_all q cs) (late (suc number) cs) more

-- a test of all conjuncts is one of those that cannot fault and one of the others, by their numbers
pub early_and_late : (kinds : Kinds) (q : NamedExpr → Bool) (cs : List NamedExpr)
    → (list_all q (filter (λ e. not (can_fault kinds e.expr)) cs) && list_all (λ i. holds q (slice_get cs i)) (late_from kinds 0 cs)) ≡ list_all q cs
early_and_late kinds q cs = parted kinds q (slice_get cs) 0 cs (λ k. let same : 0 + k ≡ k = omega arith in ap (slice_get cs) same)
