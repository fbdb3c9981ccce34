-- All choices of items for some variables: each choice binds these variables, and what stands once for each of them stands
-- once among the choices.
use Rattle.std.proofs.Common.{◌≡◌, ℕ, zero, suc, ◌+◌, ◌<◌, ◌≤◌, Bool, true, false, ◌||◌, cond, nat_eq, List, [], ◌∷◌, map, filter, ◌⊎◌, inl, inr, ◌≢◌, refl, sym, ap, ap₂, ◌∙◌, arith, true≢false}
use Rattle.std.specs.List.{AllByRecursion, range_with_len, list_all}
use Rattle.std.proofs.lemmas.Bool.{eq-eqb, ne_eqb, cases_eq, cases_lt, or_right}
use Rattle.gq_plan.specs.Parts.{bindings}
use Rattle.gq_plan.specs.Counts.{bit, hits}
use Rattle.gq_plan.proofs.Counts.{total_map, total_flat_map, total_same, hits_const_and, hits_and_const, cond_and}
use Rattle.gq_plan.proofs.Each.{each_of, each_map, each_flat_map}
use Rattle.gq_law_plans.proofs.Counting.{cond_both}
use Rattle.gq_law_plans.proofs.Filled.{among}
use Rattle.gq_law_plans.specs.Bindings.{bound}
use Rattle.gq_law_plans.proofs.Lookups.{Found, found_bind}

-- ---- numbers that pass a test

-- a number outside a range is not among what it keeps
pass_out : (p : ℕ → Bool) (a n w : ℕ) → (w < a) ⊎ (a + n ≤ w) → among (filter p (range_with_len a n)) w ≡ false
pass_out p a zero w h = refl
pass_out p a (suc n) w h = go (p a) (pass_out p (a + 1) n w (later h))
  where
    later : (w < a) ⊎ (a + suc n ≤ w) → (w < a + 1) ⊎ (a + 1 + n ≤ w)
    later (inl low) = inl (omega arith)
    later (inr high) = inr (omega arith)

    other : (w < a) ⊎ (a + suc n ≤ w) → w ≢ a
    other (inl low) e = omega arith
    other (inr high) e = omega arith

    go : (b : Bool) → among (filter p (range_with_len (a + 1) n)) w ≡ false → among (cond b (a ∷ filter p (range_with_len (a + 1) n)) (filter p (range_with_len (a + 1) n))) w ≡ false
    go true more = ap₂ ◌||◌ (ne_eqb w a (other h)) more
    go false more = more

pub pass_in : (p : ℕ → Bool) (a n w : ℕ) → a ≤ w → w < a + n → p w ≡ true → among (filter p (range_with_len a n)) w ≡ true
pass_in p a zero w low high h = absurd (omega arith)
pass_in p a (suc n) w low high h = go (p a) refl (cases_eq w a) (λ more. pass_in p (a + 1) n w more (omega arith) h)
  where
    keep : (b : Bool) → among (filter p (range_with_len (a + 1) n)) w ≡ true → among (cond b (a ∷ filter p (range_with_len (a + 1) n)) (filter p (range_with_len (a + 1) n))) w ≡ true
    keep true more = or_right (nat_eq w a) _ more
    keep false more = more

    go : (b : Bool) → p a ≡ b → (w ≡ a) ⊎ (w ≡ a → ⊥) → (a + 1 ≤ w → among (filter p (range_with_len (a + 1) n)) w ≡ true)
        → among (cond b (a ∷ filter p (range_with_len (a + 1) n)) (filter p (range_with_len (a + 1) n))) w ≡ true
    go true e (inl same) more = ap (λ c. c || among (filter p (range_with_len (a + 1) n)) w) (eq-eqb w a same)
    go false e (inl same) more = absurd (true≢false (sym h ∙ ap p same ∙ e))
    go b e (inr other) more = keep b (more (let apart : w ≡ a → ⊥ = other in omega arith))

-- each number but once
abbrev pub Once : List ℕ → Type 0
Once [] = Unit {0}
Once (v ∷ vs) = (among vs v ≡ false) × Once vs

pub pass_once : (p : ℕ → Bool) (a n : ℕ) → Once (filter p (range_with_len a n))
pass_once p a zero = tt
pass_once p a (suc n) = go (p a) (pass_out p (a + 1) n a (inl (omega arith))) (pass_once p (a + 1) n)
  where
    go : (b : Bool) → among (filter p (range_with_len (a + 1) n)) a ≡ false → Once (filter p (range_with_len (a + 1) n)) → Once (cond b (a ∷ filter p (range_with_len (a + 1) n)) (filter p (range_with_len (a + 1) n)))
    go true new more = (new, more)
    go false new more = more

pub pass_below : (p : ℕ → Bool) (n w : ℕ) → among (filter p (range_with_len 0 n)) w ≡ true → w < n
pass_below p n w h = elim (cases_lt w n) [ inl low ↦ low | inr high ↦ absurd (true≢false (sym h ∙ pass_out p 0 n w (inr (omega arith)))) ]

-- ---- choices

module _ {X : Type 0} (at : ℕ → List X) where
  pub bindings_made : (vs : List ℕ) → Once vs → AllByRecursion (λ bs. Found bs bs × ((v : ℕ) → bound bs v ≡ among vs v)) (bindings at vs)
  bindings_made [] once = ((tt, λ v. refl), tt)
  bindings_made (v ∷ vs) once =
      each_flat_map (λ x. Unit {0}) (λ bs. Found bs bs × ((w : ℕ) → bound bs w ≡ among (v ∷ vs) w)) (λ x. map (λ bs. (v, x) ∷ bs) (bindings at vs))
      (λ x _. each_map (λ bs. Found bs bs × ((w : ℕ) → bound bs w ≡ among vs w)) (λ bs. Found bs bs × ((w : ℕ) → bound bs w ≡ among (v ∷ vs) w)) (λ bs. (v, x) ∷ bs)
      (λ bs h. (found_bind v x bs (h.1 v ∙ once.0) h.0, λ w. ap (λ b. nat_eq w v || b) (h.1 w))) (bindings at vs) (bindings_made vs once.1))
      (at v) (each_of (λ x. Unit {0}) (λ x. tt) (at v))

  pub bindings_hits : (test : ℕ → X → Bool) (stands : ℕ → Bool) → ((v : ℕ) → hits (test v) (at v) ≡ bit (stands v)) → (vs : List ℕ) → hits (λ bs. list_all (λ b. test b.0 b.1) bs) (bindings at vs) ≡ bit (list_all stands vs)
  bindings_hits test stands once [] = refl
  bindings_hits test stands once (v ∷ vs) =
      let rest = bindings at vs in
      total_flat_map (λ bs. bit (list_all (λ b. test b.0 b.1) bs)) (λ x. map (λ bs. (v, x) ∷ bs) rest) (at v)
      ∙ total_same _ _
      (λ x. total_map (λ bs. bit (list_all (λ b. test b.0 b.1) bs)) (λ bs. (v, x) ∷ bs) rest
      ∙ hits_const_and (test v x) (λ bs. list_all (λ b. test b.0 b.1) bs) rest
      ∙ ap (λ n. cond (test v x) n 0) (bindings_hits test stands once vs)
      ∙ cond_both (test v x) (list_all stands vs)) (at v)
      ∙ hits_and_const (test v) (list_all stands vs) (at v)
      ∙ ap (λ n. cond (list_all stands vs) n 0) (once v)
      ∙ cond_and (stands v) (list_all stands vs)
