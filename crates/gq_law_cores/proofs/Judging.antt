-- What conjuncts leave of a row by which an assignment is continued: where the conjuncts that an alternative tests are true of the
-- assignment, the others alone judge the row; and where one of them is not, nothing is left of it.
use Rattle.std.proofs.Common.{◌≡◌, ℕ, zero, suc, ◌+◌, Bool, true, false, not, ◌&&◌, ◌||◌, cond, Option, Some, Result, Ok, Err, List, [], ◌∷◌, ◌++◌, map, filter, flat_map, slice_get, refl, sym, ap, ap₂, ◌∙◌, arith, add-zero, true≢false}
use Rattle.std.specs.List.{list_all, list_any}
use Rattle.std.proofs.lemmas.Bool.{and_parts, or_right}
use Rattle.gq_base.specs.Plain.{Graph}
use Rattle.gq_base.specs.Values.{null, flag, int, str, node, rel}
use Rattle.gq_expr.specs.Kinds.{can_fault}
use Rattle.gq_expr.specs.Meaning.{meaning}
use Rattle.gq_expr.specs.Operators.{Outcome}
use Rattle.gq_expr.specs.Reading as reading
use Rattle.gq_expr.specs.declared.Fault.{Fault}
use Rattle.gq_expr.specs.declared.Kinds.{Kinds}
use Rattle.gq_law_answers.proofs.Early as safe
use Rattle.gq_plan.proofs.Marks.{dropped_row}
use Rattle.gq_plan.specs.Assignments.{Assignment, row_of}
use Rattle.gq_plan.specs.Conditions.{passes}
use Rattle.gq_plan.specs.Marked.{fault_in, marked, no_fault}
use Rattle.gq_plan.specs.Meaning.{found}
use Rattle.gq_plan.specs.Outcomes.{behind_condition, behind_conditions, drops, meanings_of}
use Rattle.gq_plan.specs.declared.NamedExpr.{NamedExpr}
use Rattle.gq_law_cores.specs.Made.{Agrees}
use Rattle.gq_law_cuts.specs.Typing.{is_early, others_from}

abbrev is_true : Outcome → Bool
is_true (Ok (flag b)) = b
is_true o = false

-- a condition that is true drops nothing, and lets what comes later stand
true_keeps : (o : Outcome) → is_true o ≡ true → drops o ≡ false
true_keeps (Ok (flag true)) e = refl
true_keeps (Ok (flag false)) e = absurd (true≢false (sym e))
true_keeps (Ok null) e = absurd (true≢false (sym e))
true_keeps (Ok (int z)) e = refl
true_keeps (Ok (str s)) e = refl
true_keeps (Ok (node n)) e = refl
true_keeps (Ok (rel r)) e = refl
true_keeps (Err f) e = refl

true_before : {A : Type 0} (o : Outcome) (later : Result A Fault) → is_true o ≡ true → behind_condition o later ≡ later
true_before (Ok (flag b)) later e = refl
true_before (Ok null) later e = absurd (true≢false (sym e))
true_before (Ok (int z)) later e = absurd (true≢false (sym e))
true_before (Ok (str s)) later e = absurd (true≢false (sym e))
true_before (Ok (node n)) later e = absurd (true≢false (sym e))
true_before (Ok (rel r)) later e = absurd (true≢false (sym e))
true_before (Err f) later e = absurd (true≢false (sym e))

-- ---- conjuncts of two kinds

module _ (early : NamedExpr → Bool) where
  abbrev pub firsts : List NamedExpr → List NamedExpr
  firsts cs = filter early cs

  abbrev pub others : List NamedExpr → List NamedExpr
  others cs = filter (λ e. not (early e)) cs

  -- what the numbers of the others stand for
  pub numbered : (at : ℕ → Option NamedExpr) (number : ℕ) (cs : List NamedExpr) → ((k : ℕ) → at (number + k) ≡ slice_get cs k)
      → flat_map (λ i. found (at i)) (others_from early number cs) ≡ others cs
  numbered at number [] is = refl
  numbered at number (c ∷ cs) is =
      go (early c) (ap at (sym (add-zero number)) ∙ is zero)
      (numbered at (suc number) cs (λ k. let same : suc number + k ≡ number + suc k = omega arith in ap at same ∙ is (suc k)))
    where
      go : (b : Bool) → at number ≡ Some c → flat_map (λ i. found (at i)) (others_from early (suc number) cs) ≡ others cs
          → flat_map (λ i. found (at i)) (cond b (others_from early (suc number) cs) (number ∷ others_from early (suc number) cs)) ≡ cond (not b) (c ∷ others cs) (others cs)
      go true here more = more
      go false here more = ap₂ (λ o l. found o ++ l) here more

  module _ (g : Graph) (row : reading.Assignment) where
    -- conditions that are true may be left out
    drops_others : (cs : List NamedExpr) → list_all (passes g row) (firsts cs) ≡ true → list_any drops (meanings_of g row (others cs)) ≡ list_any drops (meanings_of g row cs)
    drops_others [] h = refl
    drops_others (c ∷ cs) h = go (early c) h (drops_others cs)
      where
        m : Outcome
        m = meaning g row c.expr

        go : (b : Bool) → list_all (passes g row) (cond b (c ∷ firsts cs) (firsts cs)) ≡ true
            → (list_all (passes g row) (firsts cs) ≡ true → list_any drops (meanings_of g row (others cs)) ≡ list_any drops (meanings_of g row cs))
            → list_any drops (meanings_of g row (cond (not b) (c ∷ others cs) (others cs))) ≡ (drops m || list_any drops (meanings_of g row cs))
        go false h more = ap (λ b. drops m || b) (more h)
        go true h more =
            let parts = and_parts (is_true m) (list_all (passes g row) (firsts cs)) h in
            more parts.1 ∙ ap (λ b. b || list_any drops (meanings_of g row cs)) (sym (true_keeps m parts.0))

    behind_others : {A : Type 0} (later : Result A Fault) (cs : List NamedExpr) → list_all (passes g row) (firsts cs) ≡ true
        → behind_conditions (meanings_of g row (others cs)) later ≡ behind_conditions (meanings_of g row cs) later
    behind_others later [] h = refl
    behind_others later (c ∷ cs) h = go (early c) h (behind_others later cs)
      where
        m : Outcome
        m = meaning g row c.expr

        go : (b : Bool) → list_all (passes g row) (cond b (c ∷ firsts cs) (firsts cs)) ≡ true
            → (list_all (passes g row) (firsts cs) ≡ true → behind_conditions (meanings_of g row (others cs)) later ≡ behind_conditions (meanings_of g row cs) later)
            → behind_conditions (meanings_of g row (cond (not b) (c ∷ others cs) (others cs))) later ≡ behind_condition m (behind_conditions (meanings_of g row cs) later)
        go false h more = ap (behind_condition m) (more h)
        go true h more =
            let parts = and_parts (is_true m) (list_all (passes g row) (firsts cs)) h in
            more parts.1 ∙ sym (true_before m (behind_conditions (meanings_of g row cs) later) parts.0)

    pub judged_others : (cs : List NamedExpr) → list_all (passes g row) (firsts cs) ≡ true → marked g (others cs) row ≡ marked g cs row
    unfolding marked
    judged_others cs h =
        ap₂ (λ (b : Bool) (o : Option Fault). map (λ m. record { row = row; mark = m }) (cond b [] (o ∷ [])))
        (drops_others cs h) (ap fault_in (behind_others no_fault cs h))

-- ---- rows that agree with an assignment

module _ (g : Graph) (stays : NamedExpr → Bool) (t : Assignment) (r : reading.Assignment) (agrees : Agrees g stays t r) where
  -- what is tested of the assignment is true of the row
  pub passes_too : (kinds : Kinds) (cs : List NamedExpr) → list_all (passes g (row_of t)) (safe.early kinds (filter stays cs)) ≡ true → list_all (passes g r) (firsts (is_early stays kinds) cs) ≡ true
  passes_too kinds [] h = refl
  passes_too kinds (c ∷ cs) h = go (stays c) refl h (passes_too kinds cs)
    where
      safe_one : (a : Bool) → list_all (passes g (row_of t)) (cond (not a) (c ∷ safe.early kinds (filter stays cs)) (safe.early kinds (filter stays cs))) ≡ true
          → meaning g r c.expr ≡ meaning g (row_of t) c.expr
          → (list_all (passes g (row_of t)) (safe.early kinds (filter stays cs)) ≡ true → list_all (passes g r) (firsts (is_early stays kinds) cs) ≡ true)
          → list_all (passes g r) (cond (not a) (c ∷ firsts (is_early stays kinds) cs) (firsts (is_early stays kinds) cs)) ≡ true
      safe_one true h same more = more h
      safe_one false h same more =
          let parts = and_parts (is_true (meaning g (row_of t) c.expr)) (list_all (passes g (row_of t)) (safe.early kinds (filter stays cs))) h in
          ap₂ ◌&&◌ (ap is_true same ∙ parts.0) (more parts.1)

      go : (b : Bool) → stays c ≡ b → list_all (passes g (row_of t)) (safe.early kinds (cond b (c ∷ filter stays cs) (filter stays cs))) ≡ true
          → (list_all (passes g (row_of t)) (safe.early kinds (filter stays cs)) ≡ true → list_all (passes g r) (firsts (is_early stays kinds) cs) ≡ true)
          → list_all (passes g r) (cond (b && not (can_fault kinds c.expr)) (c ∷ firsts (is_early stays kinds) cs) (firsts (is_early stays kinds) cs)) ≡ true
      go true e h more = safe_one (can_fault kinds c.expr) h (agrees c e) more
      go false e h more = more h

  -- what drops the assignment drops the row
  dropped_too : (cs : List NamedExpr) → list_any drops (meanings_of g (row_of t) (filter stays cs)) ≡ true → list_any drops (meanings_of g r cs) ≡ true
  dropped_too [] h = h
  dropped_too (c ∷ cs) h = go (stays c) refl h (dropped_too cs)
    where
      one : (a b : Bool) → (a || b) ≡ true → (b ≡ true → list_any drops (meanings_of g r cs) ≡ true) → (a || list_any drops (meanings_of g r cs)) ≡ true
      one true b e more = refl
      one false b e more = more e

      go : (b : Bool) → stays c ≡ b → list_any drops (meanings_of g (row_of t) (cond b (c ∷ filter stays cs) (filter stays cs))) ≡ true
          → (list_any drops (meanings_of g (row_of t) (filter stays cs)) ≡ true → list_any drops (meanings_of g r cs) ≡ true)
          → (drops (meaning g r c.expr) || list_any drops (meanings_of g r cs)) ≡ true
      go true e h more = ap (λ o. drops o || list_any drops (meanings_of g r cs)) (agrees c e) ∙ one (drops (meaning g (row_of t) c.expr)) (list_any drops (meanings_of g (row_of t) (filter stays cs))) h more
      go false e h more = or_right (drops (meaning g r c.expr)) (list_any drops (meanings_of g r cs)) (more h)

  pub nothing_left : (cs : List NamedExpr) → list_any drops (meanings_of g (row_of t) (filter stays cs)) ≡ true → marked g cs r ≡ []
  nothing_left cs h = dropped_row g cs r (dropped_too cs h)
