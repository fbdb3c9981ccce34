-- Which variables a plan binds: those of the demands that it meets; so a plan that covers an alternative binds all of its
-- variables and no others.
use Rattle.std.proofs.Common.{◌≡◌, ℕ, Bool, true, false, not, ◌&&◌, ◌||◌, nat_eq, nat_lt, ltb, List, ◌++◌, map, filter, length, slice_get, refl, sym, ap, ◌∙◌, arith, zero-add, true≢false}
use Rattle.std.specs.List.{range_with_len, list_all, list_any}
use Rattle.std.proofs.Math.Bool.{or-false}
use Rattle.std.proofs.lemmas.Bool.{ne_eqb, and_parts, or_right}
use Rattle.std.proofs.lemmas.List.Folds.{list_any-append}
use Rattle.std.proofs.lemmas.List.Sorted.{list_any-IsPermutation}
use Rattle.gq_base.specs.Catalogs.{Tables}
use Rattle.gq_plan.proofs.Permuted.{list_any_map, any_none, any_dropped, range_any, all_numbers}
use Rattle.gq_plan.specs.Covers.{after, after_step, fits, fits_step, is_joined, demands, is_key, leaves_loops_out, placed, placed_step, Covers}
use Rattle.gq_plan.specs.Known.{Known, none}
use Rattle.gq_plan.specs.Meaning.{holds}
use Rattle.gq_plan.specs.Soundness.{has_number}
use Rattle.gq_plan.specs.Plans.{Plan, Done, Then, Step, Scan, Extend, Close, Join, Keep, Differ, NoLoop, Single, Meet}
use Rattle.gq_plan.specs.declared.demand.Demand.{Demand}
use Rattle.gq_plan.specs.declared.demand.Demand.TheVariants.{InTable, Joins, Passes, Differs, IsNoLoop}
use Rattle.gq_plan.specs.declared.typed.Typed.{Typed}

not_not : (b : Bool) → not b ≡ false → b ≡ true
not_not true e = refl
not_not false e = absurd (true≢false e)

abbrev pub is_table : ℕ → Demand → Bool
is_table v (InTable w) = nat_eq v w
is_table v (Joins x) = false
is_table v (Passes i) = false
is_table v (Differs p) = false
is_table v (IsNoLoop x) = false

abbrev pub is_joins : ℕ → Demand → Bool
is_joins v (InTable w) = false
is_joins v (Joins x) = nat_eq v x
is_joins v (Passes i) = false
is_joins v (Differs p) = false
is_joins v (IsNoLoop x) = false

or_last : (a c : Bool) → (a || c) ≡ ((a || false) || c)
or_last a c = ap (λ b. b || c) (sym (or-false a))

or_turn : (a b c : Bool) → (a || (b || c)) ≡ ((b || a) || c)
or_turn true true c = refl
or_turn true false c = refl
or_turn false true c = refl
or_turn false false c = refl

-- the variables that a plan binds are those of the demands that it meets
module _ (catalog : Tables) (y : Typed) (v : ℕ) where
  both_true : (a b c : Bool) → c ≡ true → (a || c) ≡ (b || c)
  both_true a b c e = or_right a c e ∙ sym (or_right b c e)

  key_kept : (ks : List ℕ) → has_number ks v ≡ false → (d : Demand) → not (is_key ks d) ≡ false → is_table v d ≡ false
  key_kept ks other (InTable w) e = ne_eqb v w (λ same. true≢false (sym (not_not (has_number ks w) e) ∙ ap (has_number ks) (sym same) ∙ other))
  key_kept ks other (Joins x) e = refl
  key_kept ks other (Passes i) e = refl
  key_kept ks other (Differs p) e = refl
  key_kept ks other (IsNoLoop x) e = refl

  joins_kept : (ks : List ℕ) (d : Demand) → not (is_key ks d) ≡ false → is_joins v d ≡ false
  joins_kept ks (InTable w) e = refl
  joins_kept ks (Joins x) e = absurd (true≢false e)
  joins_kept ks (Passes i) e = refl
  joins_kept ks (Differs p) e = refl
  joins_kept ks (IsNoLoop x) e = refl

  mutual
    unfolding after after_step placed placed_step fits fits_step

    pub plan_binds : (p : Plan) (k : Known) → fits catalog y p k ≡ true → (after p k).nodes v ≡ (list_any (is_table v) (placed p) || k.nodes v)
    plan_binds Done k fit = refl
    plan_binds (Then s p) k fit =
        let parts = and_parts (fits_step catalog y s k) (fits catalog y p (after_step s k)) fit in
        plan_binds p (after_step s k) parts.1
        ∙ ap (λ b. list_any (is_table v) (placed p) || b) (step_binds s k parts.0)
        ∙ or_turn (list_any (is_table v) (placed p)) (list_any (is_table v) (placed_step s)) (k.nodes v)
        ∙ ap (λ b. b || k.nodes v) (sym (list_any-append (is_table v) (placed_step s) (placed p)))

    step_binds : (s : Step) (k : Known) → fits_step catalog y s k ≡ true → (after_step s k).nodes v ≡ (list_any (is_table v) (placed_step s) || k.nodes v)
    step_binds (Scan w) k fit = or_last (nat_eq v w) (k.nodes v)
    step_binds (Extend column x from to way) k fit = or_last (nat_eq v to) (k.nodes v)
    step_binds (Close column x from to way) k fit = refl
    step_binds (Join side ks) k fit =
        let parts = and_parts (fits catalog y side none) (is_joined y ks (after side none) k) fit in
        let keys = and_parts (list_all (λ v. (after side none).nodes v && k.nodes v) ks) _ parts.1 in
        go (has_number ks v) refl (plan_binds side none parts.0 ∙ or-false (list_any (is_table v) (placed side)))
        (λ e. (and_parts ((after side none).nodes v) (k.nodes v) (all_numbers (λ v. (after side none).nodes v && k.nodes v) ks keys.0 v e)).1)
      where
        go : (c : Bool) → has_number ks v ≡ c → (after side none).nodes v ≡ list_any (is_table v) (placed side) → (has_number ks v ≡ true → k.nodes v ≡ true)
            → ((after side none).nodes v || k.nodes v) ≡ (list_any (is_table v) (filter (λ d. not (is_key ks d)) (placed side)) || k.nodes v)
        go true e same up = both_true _ _ (k.nodes v) (up e)
        go false e same up = ap (λ b. b || k.nodes v) (same ∙ sym (any_dropped (λ d. not (is_key ks d)) (is_table v) (key_kept ks e) (placed side)))
    step_binds (Keep i) k fit = refl
    step_binds (Differ p) k fit = refl
    step_binds (NoLoop x) k fit = refl
    step_binds (Single x from to way) k fit = refl
    step_binds (Meet x from to way) k fit = refl

  mutual
    unfolding after after_step placed placed_step

    pub plan_joins : (p : Plan) (k : Known) → (after p k).rels v ≡ (list_any (is_joins v) (placed p) || k.rels v)
    plan_joins Done k = refl
    plan_joins (Then s p) k =
        plan_joins p (after_step s k)
        ∙ ap (λ b. list_any (is_joins v) (placed p) || b) (step_joins s k)
        ∙ or_turn (list_any (is_joins v) (placed p)) (list_any (is_joins v) (placed_step s)) (k.rels v)
        ∙ ap (λ b. b || k.rels v) (sym (list_any-append (is_joins v) (placed_step s) (placed p)))

    step_joins : (s : Step) (k : Known) → (after_step s k).rels v ≡ (list_any (is_joins v) (placed_step s) || k.rels v)
    step_joins (Scan w) k = refl
    step_joins (Extend column x from to way) k = or_last (nat_eq v x) (k.rels v)
    step_joins (Close column x from to way) k = or_last (nat_eq v x) (k.rels v)
    step_joins (Join side ks) k =
        ap (λ b. b || k.rels v)
        (plan_joins side none ∙ or-false (list_any (is_joins v) (placed side)) ∙ sym (any_dropped (λ d. not (is_key ks d)) (is_joins v) (joins_kept ks) (placed side)))
    step_joins (Keep i) k = refl
    step_joins (Differ p) k = refl
    step_joins (NoLoop x) k = refl
    step_joins (Single x from to way) k = or_last (nat_eq v x) (k.rels v)
    step_joins (Meet x from to way) k = refl

  -- ---- the variables of the demands are those of the alternative

  pub any_demand : (p : Demand → Bool) (a b c d e : List ℕ) → list_any p (map InTable a ++ map Joins b ++ map Passes c ++ map Differs d ++ map IsNoLoop e)
      ≡ ((((list_any (λ x. p (InTable x)) a || list_any (λ x. p (Joins x)) b) || list_any (λ x. p (Passes x)) c) || list_any (λ x. p (Differs x)) d) || list_any (λ x. p (IsNoLoop x)) e)
  any_demand p a b c d e = simp (list_any-append, list_any_map)

  abbrev to : ℕ → List ℕ
  to n = range_with_len 0 n

  demands_table : list_any (is_table v) (demands y) ≡ ltb v (length y.nodes)
  unfolding demands
  demands_table =
      any_demand (is_table v) (to (length y.nodes)) (to (length y.rels)) (to (length y.tests)) (to (length y.pairs)) (filter (λ x. holds leaves_loops_out (slice_get y.rels x)) (to (length y.rels)))
      ∙ simp (any_none, or-false) (range_any v 0 (length y.nodes) (omega arith) ∙ ap (ltb v) (zero-add _))

  demands_joins : list_any (is_joins v) (demands y) ≡ ltb v (length y.rels)
  unfolding demands
  demands_joins =
      any_demand (is_joins v) (to (length y.nodes)) (to (length y.rels)) (to (length y.tests)) (to (length y.pairs)) (filter (λ x. holds leaves_loops_out (slice_get y.rels x)) (to (length y.rels)))
      ∙ simp (any_none, or-false) (range_any v 0 (length y.rels) (omega arith) ∙ ap (ltb v) (zero-add _))

  -- all of them
  pub covers_nodes : (p : Plan) → Covers catalog y p → (after p none).nodes v ≡ nat_lt v (length y.nodes)
  covers_nodes p covers = plan_binds p none covers.fits ∙ or-false (list_any (is_table v) (placed p)) ∙ list_any-IsPermutation (is_table v) (placed p) (demands y) covers.once ∙ demands_table

  pub covers_rels : (p : Plan) → Covers catalog y p → (after p none).rels v ≡ nat_lt v (length y.rels)
  covers_rels p covers = plan_joins p none ∙ or-false (list_any (is_joins v) (placed p)) ∙ list_any-IsPermutation (is_joins v) (placed p) (demands y) covers.once ∙ demands_joins
