-- The demands of a plan that its joins leave out are met all the same.
use Rattle.std.proofs.Common.{◌≡◌, ℕ, Bool, true, false, not, ◌&&◌, ◌||◌, nat_eq, inl, inr, refl, sym, ap, ap₂, ◌∙◌, true≢false}
use Rattle.std.specs.List.{list_all}
use Rattle.std.proofs.lemmas.Bool.{eqb-true, and_parts, or_cases, not-false}
use Rattle.std.proofs.lemmas.List.Folds.{list_all-append}
use Rattle.gq_base.specs.Catalogs.{Tables}
use Rattle.gq_plan.specs.Covers.{after, after_step, fits, fits_step, is_joined, is_key, placed, placed_step}
use Rattle.gq_plan.specs.Known.{Known, none}
use Rattle.gq_plan.specs.Soundness.{has_number}
use Rattle.gq_plan.specs.Plans.{Plan, Done, Then, Step, Scan, Extend, Close, Join, Keep, Differ, NoLoop, Single, Meet}
use Rattle.gq_plan.specs.declared.demand.Demand.{Demand}
use Rattle.gq_plan.specs.declared.demand.Demand.TheVariants.{InTable, Joins, Passes, Differs, IsNoLoop}
use Rattle.gq_plan.specs.declared.typed.Typed.{Typed}
use Rattle.gq_plan.proofs.Permuted.{all_dropped, all_numbers}
use Rattle.gq_law_plans.proofs.PlanCounts.{placed_all, placed_all_step}

-- the demands that joins leave out are met already
module _ (catalog : Tables) (y : Typed) (met : Demand → Bool) where
  with_one : (w v : ℕ) (b : Bool) → met (InTable w) ≡ true → (b ≡ true → met (InTable v) ≡ true) → (nat_eq v w || b) ≡ true → met (InTable v) ≡ true
  with_one w v b here rest h = elim (or_cases (nat_eq v w) b h) [ inl e ↦ ap (λ u. met (InTable u)) (eqb-true v w e) ∙ here | inr e ↦ rest e ]

  mutual
    unfolding after after_step placed_all placed_all_step

    plan_in : (p : Plan) (k : Known) (v : ℕ) → (k.nodes v ≡ true → met (InTable v) ≡ true) → list_all met (placed_all p) ≡ true → (after p k).nodes v ≡ true → met (InTable v) ≡ true
    plan_in Done k v before all h = before h
    plan_in (Then s p) k v before all h =
        let parts = and_parts (list_all met (placed_all_step s)) (list_all met (placed_all p)) (sym (list_all-append met (placed_all_step s) (placed_all p)) ∙ all) in
        plan_in p (after_step s k) v (step_in s k v before parts.0) parts.1 h

    step_in : (s : Step) (k : Known) (v : ℕ) → (k.nodes v ≡ true → met (InTable v) ≡ true) → list_all met (placed_all_step s) ≡ true → (after_step s k).nodes v ≡ true → met (InTable v) ≡ true
    step_in (Scan w) k v before all h = with_one w v (k.nodes v) (and_parts (met (InTable w)) true all).0 before h
    step_in (Extend column x from to way) k v before all h =
        with_one to v (k.nodes v) (and_parts (met (InTable to)) true (and_parts (met (Joins x)) (met (InTable to) && true) all).1).0 before h
    step_in (Close column x from to way) k v before all h = before h
    step_in (Join side ks) k v before all h =
        let inside = plan_in side none v (λ e. absurd (true≢false (sym e))) all in
        elim (or_cases ((after side none).nodes v) (k.nodes v) h) [ inl e ↦ inside e | inr e ↦ before e ]
    step_in (Keep i) k v before all h = before h
    step_in (Differ p) k v before all h = before h
    step_in (NoLoop x) k v before all h = before h
    step_in (Single x from to way) k v before all h = before h
    step_in (Meet x from to way) k v before all h = before h

  then_same : (a b c d : Bool) → a ≡ b → (a ≡ true → c ≡ d) → (a && c) ≡ (b && d)
  then_same true b c d e more = ap₂ ◌&&◌ e (more refl)
  then_same false b c d e more = ap (λ x. x && d) e

  mutual
    unfolding after after_step placed placed_step placed_all placed_all_step fits fits_step

    pub placed_same : (p : Plan) (k : Known) → fits catalog y p k ≡ true → ((v : ℕ) → k.nodes v ≡ true → met (InTable v) ≡ true) → list_all met (placed_all p) ≡ list_all met (placed p)
    placed_same Done k fit before = refl
    placed_same (Then s p) k fit before =
        let parts = and_parts (fits_step catalog y s k) (fits catalog y p (after_step s k)) fit in
        list_all-append met (placed_all_step s) (placed_all p)
        ∙ then_same (list_all met (placed_all_step s)) (list_all met (placed_step s)) (list_all met (placed_all p)) (list_all met (placed p)) (step_same s k parts.0 before)
        (λ all. placed_same p (after_step s k) parts.1 (λ v h. step_in s k v (before v) all h))
        ∙ sym (list_all-append met (placed_step s) (placed p))

    step_same : (s : Step) (k : Known) → fits_step catalog y s k ≡ true → ((v : ℕ) → k.nodes v ≡ true → met (InTable v) ≡ true) → list_all met (placed_all_step s) ≡ list_all met (placed_step s)
    step_same (Scan w) k fit before = refl
    step_same (Extend column x from to way) k fit before = refl
    step_same (Close column x from to way) k fit before = refl
    step_same (Join side ks) k fit before =
        let parts = and_parts (fits catalog y side none) (is_joined y ks (after side none) k) fit in
        let keys = and_parts (list_all (λ v. (after side none).nodes v && k.nodes v) ks) _ parts.1 in
        placed_same side none parts.0 (λ v h. absurd (true≢false (sym h)))
        ∙ sym (all_dropped (λ d. not (is_key ks d)) met
        (kept (λ v e. before v (and_parts ((after side none).nodes v) (k.nodes v) (all_numbers (λ v. (after side none).nodes v && k.nodes v) ks keys.0 v e)).1)) (placed side))
      where
        kept : ((v : ℕ) → has_number ks v ≡ true → met (InTable v) ≡ true) → (d : Demand) → not (is_key ks d) ≡ false → met d ≡ true
        kept known (InTable w) e = known w (not-false (has_number ks w) e)
        kept known (Joins x) e = absurd (true≢false e)
        kept known (Passes i) e = absurd (true≢false e)
        kept known (Differs p) e = absurd (true≢false e)
        kept known (IsNoLoop x) e = absurd (true≢false e)
    step_same (Keep i) k fit before = refl
    step_same (Differ p) k fit before = refl
    step_same (NoLoop x) k fit before = refl
    step_same (Single x from to way) k fit before = refl
    step_same (Meet x from to way) k fit before = refl
