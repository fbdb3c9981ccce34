-- Where all conjuncts stay in the core, its alternatives are as those of the pattern.
use Rattle.std.proofs.Common.{◌≡◌, ℕ, suc, Bool, true, false, not, ◌&&◌, cond, List, [], ◌∷◌, refl, ap, ap₂, ◌∙◌}
use Rattle.std.specs.List.{AllByRecursion}
use Rattle.gq_expr.specs.Kinds.{can_fault}
use Rattle.gq_expr.specs.declared.Kinds.{Kinds}
use Rattle.gq_alternatives.specs.Alternatives.{late_from, typed_of, typed_rels}
use Rattle.gq_plan.specs.Soundness.{kinds_for}
use Rattle.gq_plan.specs.declared.NamedExpr.{NamedExpr}
use Rattle.gq_law_cuts.specs.Plain.{PlainTyped}
use Rattle.gq_law_cuts.specs.Typing.{core_typed, is_early, others_from}
use Rattle.gq_law_cuts.proofs.Plain.{kept_all}

others_late : (stays : NamedExpr → Bool) (kinds : Kinds) (number : ℕ) (cs : List NamedExpr) → AllByRecursion (λ e. stays e ≡ true) cs
    → others_from (is_early stays kinds) number cs ≡ late_from kinds number cs
others_late stays kinds number [] h = refl
others_late stays kinds number (c ∷ cs) h =
    ap (λ b. cond (b && not (can_fault kinds c.expr)) (others_from (is_early stays kinds) (suc number) cs) (number ∷ others_from (is_early stays kinds) (suc number) cs)) h.0
    ∙ go (can_fault kinds c.expr) (others_late stays kinds (suc number) cs h.1)
  where
    go : (b : Bool) → others_from (is_early stays kinds) (suc number) cs ≡ late_from kinds (suc number) cs
        → cond (true && not b) (others_from (is_early stays kinds) (suc number) cs) (number ∷ others_from (is_early stays kinds) (suc number) cs)
        ≡ cond b (number ∷ late_from kinds (suc number) cs) (late_from kinds (suc number) cs)
    go true more = ap (λ l. number ∷ l) more
    go false more = more

pub plain_typed : PlainTyped
unfolding core_typed typed_of
plain_typed catalog p stays entries conjuncts c h =
    ap₂ (λ cs numbers. record (typed_of catalog p entries cs c) { late = numbers })
    (kept_all stays conjuncts h) (others_late stays (kinds_for catalog c.tables (typed_rels p.rels c.readings)) 0 conjuncts h)
