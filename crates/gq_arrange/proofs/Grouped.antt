-- The steps of a plan whose column closes run in halves stand in its groups by its places.
use Rattle.std.proofs.Common.{◌≡◌, ◌∙◌, ◌<◌, ◌≤◌, ◌+◌, ap, ap₂, sym, refl, ℕ, zero, suc, Bool, true, false, cond, Option, Some, List, [], ◌∷◌, ◌++◌, append_assoc, append-nil, length, length-append, slice_get, nat_eq, flat_map, subst, arith}
use Rattle.std.specs.List.{AllByRecursion}
use Rattle.std.specs.Option.{option_to_list}
use Rattle.std.proofs.lemmas.Bool.{and_parts, eqb-true}
use Rattle.gq_base.specs.Catalogs.{Tables}
use Rattle.gq_law_groups.specs.Groups.{Group, makes_group, checked, cut_from}
use Rattle.gq_law_groups.specs.Order.{NoGroups, BindsAt, StandsAt, AllAt, InOrder, Flats, FlatsOf}
use Rattle.gq_law_groups.proofs.Shaped.{in_first, in_second}
use Rattle.gq_plan.proofs.Halved.{is_half}
use Rattle.gq_plan.specs.Arranged.{home, homes, numbers_at, at_numbers}
use Rattle.gq_plan.specs.Columns.{steps_of}
use Rattle.gq_plan.specs.Covers.{after_step}
use Rattle.gq_plan.specs.Halves.{runs_step, runs}
use Rattle.gq_plan.specs.Known.{Known}
use Rattle.gq_plan.specs.Plans.{Plan, Done, Then, Step, steps}
use Rattle.gq_plan.specs.Shapes.{Places, place_step, places_after, form_of, next_group, flat_by, all_flat}
use Rattle.gq_plan.specs.Soundness.{has_number}
use Rattle.gq_plan.specs.declared.typed.Typed.{Typed}
use Rattle.gq_arrange.proofs.Between.{of, between}
use Rattle.gq_arrange.proofs.Homes.{binds_home, stands_home}
use Rattle.gq_arrange.proofs.Running.{marks, count_next}
use Rattle.gq_arrange.proofs.Sorting.{Begins}

-- ---- where steps stand

-- a step stands in its group, and what it asks to be flat is flat
pub record IsAt (y : Typed) (u : Places) (flat : ℕ → Bool) (g : ℕ) (s : Step) : Type 0 where
  pub binds : BindsAt y u g s
  pub stands : makes_group s ≡ false → StandsAt y u g s
  pub asks : (j : ℕ) → has_number (flat_by y u s) j ≡ true → flat j ≡ true

abbrev pub AreAt : Typed → Places → (ℕ → Bool) → List (ℕ × Step) → Type 0
AreAt y u flat ms = AllByRecursion (λ m. IsAt y u flat m.0 m.1) ms

pub all_at : (catalog : Tables) (y : Typed) (u : Places) (flat : ℕ → Bool) (p : Plan) (k : Known) (q : Places) → AllByRecursion (λ s. is_half s ≡ true) (steps_of p) → runs catalog y p k ≡ true → places_after p q ≡ u
    → ((j : ℕ) → has_number (all_flat y u p) j ≡ true → flat j ≡ true) → AreAt y u flat (marks y u q.count p)
unfolding runs places_after marks all_flat
all_at catalog y u flat Done k q whole fit e asks = tt
all_at catalog y u flat (Then s p) k q whole fit e asks =
    let parts = and_parts (runs_step catalog y s k) (runs catalog y p (after_step s k)) fit in (
      record {
        binds = subst (λ (w : Places). BindsAt y w (home y w q.count s) s) e (binds_home catalog y p k q s whole.0 fit);
        stands = λ small. stands_home catalog y u q.count s small;
        asks = λ j h. asks j (in_first (flat_by y u s) (all_flat y u p) j h);
      },
      subst (λ c. AreAt y u flat (marks y u c p)) (sym (count_next s q))
          (all_at catalog y u flat p (after_step s k) (place_step s q) whole.1 parts.1 e (λ j h. asks j (in_second (flat_by y u s) (all_flat y u p) j h))),
    )

-- ---- the groups that are cut

module _ (y : Typed) (u : Places) (flat : ℕ → Bool) where
  pub of_at : (g : ℕ) (ms : List (ℕ × Step)) → AreAt y u flat ms → AllByRecursion (IsAt y u flat g) (of g ms)
  of_at g [] h = tt
  of_at g (m ∷ ms) h = go (nat_eq m.0 g) refl (of_at g ms h.1)
    where
      go : (c : Bool) → nat_eq m.0 g ≡ c → AllByRecursion (IsAt y u flat g) (of g ms) → AllByRecursion (IsAt y u flat g) (cond c (m.1 ∷ of g ms) (of g ms))
      go true e rest = (subst (λ j. IsAt y u flat j m.1) (eqb-true m.0 g e) h.0, rest)
      go false e rest = rest

  checks_at : (g : ℕ) (ss : List Step) → NoGroups ss → AllByRecursion (IsAt y u flat g) ss → AllAt y u g ss × Flats y u flat ss
  checks_at g [] small h = (tt, tt)
  checks_at g (s ∷ ss) small h = (let rest = checks_at g ss small.1 h.1 in ((h.0.binds, h.0.stands small.0, rest.0), (h.0.asks, rest.1)))

-- a step that makes a group ends the one before it
cut_here : (s : Step) (ks : List Step) (t : Step) (p : Plan) → makes_group t ≡ true → cut_from s ks (Then t p) ≡ record { binds = s; checks = ks } ∷ cut_from t [] p
cut_here s ks t p m = ap (λ c. cond c (record { binds = s; checks = ks } ∷ cut_from t [] p) (cut_from s (ks ++ t ∷ []) p)) m

-- and others are placed at the group
pub cut_along : (s : Step) (ks cs rest : List Step) → NoGroups cs → cut_from s ks (steps (cs ++ rest)) ≡ cut_from s (ks ++ cs) (steps rest)
cut_along s ks [] rest small = ap (λ l. cut_from s l (steps rest)) (sym (append-nil ks))
cut_along s ks (c ∷ cs) rest small =
    ap (λ d. cond d (record { binds = s; checks = ks } ∷ cut_from c [] (steps (cs ++ rest))) (cut_from s (ks ++ c ∷ []) (steps (cs ++ rest)))) small.0
    ∙ cut_along s (ks ++ c ∷ []) cs rest small.1
    ∙ ap (λ l. cut_from s l (steps rest)) (append_assoc ks (c ∷ []) cs)

pub checked_steps : (cs rest : List Step) → checked cs (steps rest) ≡ steps (cs ++ rest)
checked_steps [] rest = refl
checked_steps (c ∷ cs) rest = ap (Then c) (checked_steps cs rest)

module _ (y : Typed) (u : Places) (flat : ℕ → Bool) (ms : List (ℕ × Step)) (each : AreAt y u flat ms) where
  abbrev Placed : ℕ → ℕ → List Group → Type 0
  Placed n i gs = InOrder y u i gs × FlatsOf y u flat gs × (length gs ≡ suc n)

  pub cut_order : (n a : ℕ) (s : Step) (ks : List Step) → ((g : ℕ) → a + 1 ≤ g → g < a + 1 + n → Begins (of g ms)) → IsAt y u flat a s → NoGroups ks → AllByRecursion (IsAt y u flat a) ks
      → Placed n a (cut_from s ks (steps (between (a + 1) n ms)))
  cut_order zero a s ks first at small ats =
      let checks = checks_at y u flat a ks small ats in
      ((at.binds, checks.0, tt), (at.asks, checks.1, tt), refl)
  cut_order (suc n) a s ks first at small ats = go (of (a + 1) ms) (first (a + 1) (omega arith) (omega arith)) (of_at y u flat (a + 1) ms each) (λ t cs. cut_order n (a + 1) t cs (λ g low high. first g (omega arith) (omega arith)))
    where
      go : (l : List Step) → Begins l → AllByRecursion (IsAt y u flat (a + 1)) l
          → ((t : Step) (cs : List Step) → IsAt y u flat (a + 1) t → NoGroups cs → AllByRecursion (IsAt y u flat (a + 1)) cs → Placed n (a + 1) (cut_from t cs (steps (between (a + 1 + 1) n ms))))
          → Placed (suc n) a (cut_from s ks (steps (l ++ between (a + 1 + 1) n ms)))
      go [] begins l_at rec = absurd begins
      go (t ∷ cs) begins l_at rec =
          let checks = checks_at y u flat a ks small ats in
          let more = rec t cs l_at.0 begins.1 l_at.1 in
          subst (Placed (suc n) a) (sym (cut_here s ks t (steps (cs ++ between (a + 1 + 1) n ms)) begins.0 ∙ ap (λ gs. record { binds = s; checks = ks } ∷ gs) (cut_along t [] cs (between (a + 1 + 1) n ms) begins.1)))
          ((at.binds, checks.0, more.0), (at.asks, checks.1, more.1), ap suc more.2)

-- ---- steps by their numbers

pub at_append : {X : Type 0} (ss : List X) (ms ns : List ℕ) → at_numbers ss (ms ++ ns) ≡ at_numbers ss ms ++ at_numbers ss ns
at_append ss [] ns = refl
at_append ss (m ∷ ms) ns = ap (λ l. option_to_list (slice_get ss m) ++ l) (at_append ss ms ns) ∙ sym (append_assoc (option_to_list (slice_get ss m)) (at_numbers ss ms) (at_numbers ss ns))

pub at_each : (ss : List Step) (f : ℕ → List ℕ) (gs : List ℕ) → at_numbers ss (flat_map f gs) ≡ flat_map (λ g. at_numbers ss (f g)) gs
at_each ss f [] = refl
at_each ss f (g ∷ gs) = at_append ss (f g) (flat_map f gs) ∙ ap (λ l. at_numbers ss (f g) ++ l) (at_each ss f gs)

got : (before : List Step) (s : Step) (ss : List Step) → slice_get (before ++ s ∷ ss) (length before) ≡ Some s
got [] s ss = refl
got (b ∷ before) s ss = got before s ss

pub numbered : (y : Typed) (b : Places) (h i : ℕ) (p : Plan) (before : List Step) → at_numbers (before ++ steps_of p) (numbers_at h (length before) (homes y b i p)) ≡ of h (marks y b i p)
unfolding homes marks
numbered y b h i Done before = refl
numbered y b h i (Then s p) before =
    let more : at_numbers (before ++ s ∷ steps_of p) (numbers_at h (length before + 1) (homes y b (next_group i (form_of s)) p)) ≡ of h (marks y b (next_group i (form_of s)) p) =
    ap₂ (λ (ss : List Step) (n : ℕ). at_numbers ss (numbers_at h n (homes y b (next_group i (form_of s)) p))) (sym (append_assoc before (s ∷ []) (steps_of p))) (sym (length-append before (s ∷ [])))
    ∙ numbered y b h (next_group i (form_of s)) p (before ++ s ∷ []) in
    go (nat_eq (home y b i s) h) more
  where
    go : (c : Bool) → at_numbers (before ++ s ∷ steps_of p) (numbers_at h (length before + 1) (homes y b (next_group i (form_of s)) p)) ≡ of h (marks y b (next_group i (form_of s)) p)
        → at_numbers (before ++ s ∷ steps_of p) (cond c (length before ∷ numbers_at h (length before + 1) (homes y b (next_group i (form_of s)) p)) (numbers_at h (length before + 1) (homes y b (next_group i (form_of s)) p)))
        ≡ cond c (s ∷ of h (marks y b (next_group i (form_of s)) p)) (of h (marks y b (next_group i (form_of s)) p))
    go true more = ap (λ (o : Option Step). option_to_list o ++ at_numbers (before ++ s ∷ steps_of p) (numbers_at h (length before + 1) (homes y b (next_group i (form_of s)) p))) (got before s (steps_of p)) ∙ ap (λ l. s ∷ l) more
    go false more = more
