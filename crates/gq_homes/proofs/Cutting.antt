-- Cutting a plan into its groups.
use Rattle.std.proofs.Common.{◌≡◌, ℕ, zero, suc, ◌+◌, ◌-◌, ◌<◌, ◌≤◌, ◌⊎◌, inl, inr, Bool, true, false, cond, List, [], ◌∷◌, ◌++◌, map, length, take, drop, get_or, refl, sym, ap, ◌∙◌, subst, arith}
use Rattle.std.proofs.lemmas.Bool.{cases_eq, cases_lt}
use Rattle.std.proofs.lemmas.List.{append_assoc, append-nil, drop_more, drop_all}
use Rattle.gq_plan.specs.Plans.{Then, Step, Keep, steps}
use Rattle.gq_law_groups.specs.Groups.{Group, makes_group, checked, cut_from, plan_of}
use Rattle.gq_law_groups.specs.Order.{NoGroups, AreCut}
use Rattle.std.specs.Prelude.{slice_index_or}
use Rattle.gq_homes.specs.Cuts.{flag, IsGroupOf, TilesTo, IsCutTo}
use Rattle.gq_homes.specs.steps.Cutting.{IsCutting}
use Rattle.gq_steps.specs.Actions.{action_of}
use Rattle.gq_steps.specs.Levels.{Run, step_at}
use Rattle.gq_steps.specs.Tests.{IsCut}
use Rattle.gq_steps.specs.Groups.{group_at, group_in, Tiles}
use Rattle.gq_steps.specs.declared.group_steps.GroupSteps.{GroupSteps}

none_in : (ss : List Step) (m n : ℕ) → m + n ≤ length ss → ((d : ℕ) → m ≤ d → d < m + n → makes_group (get_or ss d (Keep 0)) ≡ false) → NoGroups (take n (drop m ss))
none_in ss m zero h all = tt
none_in ss m (suc n) h all =
    subst (λ l. NoGroups (take (suc n) l)) (sym (drop_more ss m (Keep 0) (omega arith)))
    (all m (omega arith) (omega arith), none_in ss (m + 1) n (omega (arith, h)) (λ d low high. all d (omega (arith, low)) (omega (arith, high))))

module _ (ss : List Step) where
  tiles_more : (from : ℕ) (gs : List GroupSteps) (to : ℕ) (s : GroupSteps) → TilesTo ss from gs to → s.first ≡ to → s.first < s.end → s.end ≤ length ss → TilesTo ss from (gs ++ s ∷ []) s.end
  tiles_more from [] to s h at some inside = (at ∙ sym h, some, inside, refl)
  tiles_more from (t ∷ gs) to s h at some inside = (h.0, h.1, h.2, tiles_more t.end gs to s h.3 at some inside)

  cut_more : (gs : List GroupSteps) (s : GroupSteps) → AreCut (map (group_in ss) gs) → makes_group (slice_index_or ss s.first (Keep 0)) ≡ true → NoGroups (group_in ss s).checks → AreCut (map (group_in ss) (gs ++ s ∷ []))
  cut_more [] s h makes none = (makes, none, tt)
  cut_more (t ∷ gs) s h makes none = (h.0, h.1, cut_more gs s h.2 makes none)

  before : (gs : List GroupSteps) (s : GroupSteps) (i : ℕ) → i < length gs → group_at (gs ++ s ∷ []) i ≡ group_at gs i
  before [] s i low = absurd (omega arith)
  before (t ∷ gs) s zero low = refl
  before (t ∷ gs) s (suc i) low = before gs s i (omega arith)

  last_at : (gs : List GroupSteps) (s : GroupSteps) → group_at (gs ++ s ∷ []) (length gs) ≡ s
  last_at [] s = refl
  last_at (t ∷ gs) s = last_at gs s

  many : (gs : List GroupSteps) (s : GroupSteps) → length (gs ++ s ∷ []) ≡ length gs + 1
  many [] s = refl
  many (t ∷ gs) s = let e = many gs s in omega (arith, e)

  flags_more : (flat : List Bool) (gs : List GroupSteps) (s : GroupSteps) → ((i : ℕ) → i < length gs → (group_at gs i).flat ≡ flag flat i) → s.flat ≡ flag flat (length gs) → (i : ℕ) → i < length (gs ++ s ∷ []) → (group_at (gs ++ s ∷ []) i).flat ≡ flag flat i
  flags_more flat gs s all last i low = go (cases_lt i (length gs))
    where
      go : (i < length gs) ⊎ (length gs ≤ i) → (group_at (gs ++ s ∷ []) i).flat ≡ flag flat i
      go (inl h) = ap (λ (t : GroupSteps). t.flat) (before gs s i h) ∙ all i h
      go (inr h) =
          let e : i ≡ length gs = omega (arith, h, low, many gs s) in
          ap (λ j. (group_at (gs ++ s ∷ []) j).flat) e ∙ ap (λ (t : GroupSteps). t.flat) (last_at gs s) ∙ last ∙ ap (flag flat) (sym e)

  told_more : (P : GroupSteps → Type 0) (gs : List GroupSteps) (s : GroupSteps) → ((i : ℕ) → i < length gs → P (group_at gs i)) → P s → (i : ℕ) → i < length (gs ++ s ∷ []) → P (group_at (gs ++ s ∷ []) i)
  told_more P gs s all last i low = go (cases_lt i (length gs))
    where
      go : (i < length gs) ⊎ (length gs ≤ i) → P (group_at (gs ++ s ∷ []) i)
      go (inl h) = subst P (sym (before gs s i h)) (all i h)
      go (inr h) =
          let e : i ≡ length gs = omega (arith, h, low, many gs s) in
          subst P (sym (ap (group_at (gs ++ s ∷ [])) e ∙ last_at gs s)) last

module _ (c : Run) where
  -- one group more
  pub cut_on : (flat : List Bool) (gs : List GroupSteps) (first end : ℕ) (f : Bool) (s : GroupSteps) → IsGroupOf c first end f s → f ≡ flag flat (length gs) → IsCutting c flat gs first end → IsCutTo c flat (gs ++ s ∷ []) end
  cut_on flat gs first end f s of is t =
      let low = t.low in
      let high = t.high in
      let from : s.first ≡ first = of.first in
      let to : s.end ≡ end = of.end in
      record {
        tiles = subst (TilesTo c.steps 0 (gs ++ s ∷ [])) to (tiles_more c.steps 0 gs first s t.before.tiles from (omega (arith, low, from, to)) (omega (arith, high, to)));
        cut = cut_more c.steps gs s t.before.cut (ap (λ d. makes_group (step_at c d)) from ∙ t.starts)
            (none_in c.steps (s.first + 1) (s.end - (s.first + 1)) (omega (arith, low, high, from, to)) (λ d above below. t.rest d (omega (arith, above, from)) (omega (arith, below, low, from, to))));
        flags = flags_more c.steps flat gs s t.before.flags (of.flat ∙ is);
        actions = told_more c.steps (λ u. u.action ≡ action_of (step_at c u.first)) gs s t.before.actions (of.action ∙ ap (λ d. action_of (step_at c d)) (sym from));
        cuts = told_more c.steps (λ u. IsCut c u.first u.end u.cut) gs s t.before.cuts (subst (λ d. IsCut c d s.end s.cut) (sym from) (subst (λ d. IsCut c first d s.cut) (sym to) of.cut));
      }

  pub cutting_from : (flat : List Bool) → 0 < length c.steps → makes_group (step_at c 0) ≡ true → IsCutting c flat [] 0 1
  cutting_from flat some makes = record {
    low = omega arith;
    high = omega (arith, some);
    starts = makes;
    rest = λ d above below. absurd (omega (arith, above, below));
    before = none_cut flat;
  }
    where
      none_cut : (flat : List Bool) → IsCutTo c flat [] 0
      none_cut flat = record { tiles = refl; cut = tt; flags = λ i low. absurd (omega (arith, low)); actions = λ i low. absurd (omega (arith, low)); cuts = λ i low. absurd (omega (arith, low)) }

  pub cutting_next : (flat : List Bool) (gs : List GroupSteps) (first end : ℕ) (f : Bool) (s : GroupSteps) → IsGroupOf c first end f s → f ≡ flag flat (length gs) → IsCutting c flat gs first end → end < length c.steps → makes_group (step_at c end) ≡ true
      → IsCutting c flat (gs ++ s ∷ []) end (end + 1)
  cutting_next flat gs first end f s of is t low makes = record {
    low = omega arith;
    high = omega (arith, low);
    starts = makes;
    rest = λ d above below. absurd (omega (arith, above, below));
    before = cut_on flat gs first end f s of is t;
  }

  pub cutting_more : (flat : List Bool) (gs : List GroupSteps) (first end : ℕ) → IsCutting c flat gs first end → end < length c.steps → makes_group (step_at c end) ≡ false → IsCutting c flat gs first (end + 1)
  cutting_more flat gs first end t low none = record {
    low = (let h = t.low in omega (arith, h));
    high = omega (arith, low);
    starts = t.starts;
    rest = λ d above below. go d above below (cases_eq d end);
    before = t.before;
  }
    where
      go : (d : ℕ) → first < d → d < end + 1 → (d ≡ end) ⊎ (d ≡ end → ⊥) → makes_group (step_at c d) ≡ false
      go d above below (inl e) = ap (λ n. makes_group (step_at c n)) e ∙ none
      go d above below (inr e) = t.rest d above (omega (arith, below, e))

-- ---- the groups are the plan

checked_steps : (ks : List Step) (rest : List Step) → checked ks (steps rest) ≡ steps (ks ++ rest)
checked_steps [] rest = refl
checked_steps (k ∷ ks) rest = ap (Then k) (checked_steps ks rest)

drop_none : {X : Type 0} (n : ℕ) → drop {A = X} n [] ≡ []
drop_none zero = refl
drop_none (suc n) = refl

cut_there : {X : Type 0} (xs : List X) (m n : ℕ) → take n (drop m xs) ++ drop (m + n) xs ≡ drop m xs
cut_there [] zero zero = refl
cut_there [] zero (suc n) = drop_none (0 + suc n)
cut_there [] (suc m) zero = drop_none (suc m + 0)
cut_there [] (suc m) (suc n) = drop_none (suc m + suc n)
cut_there (x ∷ xs) zero zero = refl
cut_there (x ∷ xs) zero (suc n) = let e : 0 + suc n ≡ suc n = omega arith in let e2 : n ≡ 0 + n = omega arith in ap (λ l. x ∷ (take n xs ++ l)) (ap (λ k. drop k (x ∷ xs)) e ∙ ap (λ k. drop k xs) e2) ∙ ap (λ l. x ∷ l) (cut_there xs zero n)
cut_there (x ∷ xs) (suc m) n = let e : suc m + n ≡ suc (m + n) = omega arith in ap (λ k. take n (drop m xs) ++ drop k (x ∷ xs)) e ∙ cut_there xs m n

pub tiles_plan : (ss : List Step) (from : ℕ) (gs : List GroupSteps) → TilesTo ss from gs (length ss) → plan_of (map (group_in ss) gs) ≡ steps (drop from ss)
tiles_plan ss from [] h = ap steps (sym (drop_all from ss (omega (arith, h))))
tiles_plan ss from (s ∷ gs) h =
    let low : s.first < s.end = h.1 in
    let high : s.end ≤ length ss = h.2 in
    let back : s.first + 1 + (s.end - (s.first + 1)) ≡ s.end = omega (arith, low) in
    ap (λ p. Then (slice_index_or ss s.first (Keep 0)) (checked (group_in ss s).checks p)) (tiles_plan ss s.end gs h.3)
    ∙ ap (Then (slice_index_or ss s.first (Keep 0))) (checked_steps (group_in ss s).checks (drop s.end ss)
    ∙ ap steps (ap (λ n. (group_in ss s).checks ++ drop n ss) (sym back) ∙ cut_there ss (s.first + 1) (s.end - (s.first + 1))))
    ∙ ap steps (sym (drop_more ss s.first (Keep 0) (omega (arith, low, high)))) ∙ ap (λ n. steps (drop n ss)) h.0

-- groups that are cut are those of their plan
pub cut_same : (s : Step) (ks cs : List Step) (gs : List Group) → NoGroups cs → AreCut gs → cut_from s ks (checked cs (plan_of gs)) ≡ record { binds = s; checks = ks ++ cs } ∷ gs
cut_same s ks [] [] none cut = ap (λ l. record { binds = s; checks = l } ∷ []) (sym (append-nil ks))
cut_same s ks [] (b ∷ gs) none cut =
    ap (λ t. cond t (record { binds = s; checks = ks } ∷ cut_from b.binds [] (checked b.checks (plan_of gs))) (cut_from s (ks ++ b.binds ∷ []) (checked b.checks (plan_of gs)))) cut.0
    ∙ ap (λ l. record { binds = s; checks = ks } ∷ l) (cut_same b.binds [] b.checks gs cut.1 cut.2)
    ∙ ap (λ l. record { binds = s; checks = l } ∷ b ∷ gs) (sym (append-nil ks))
cut_same s ks (t ∷ cs) gs none cut =
    ap (λ b. cond b (record { binds = s; checks = ks } ∷ cut_from t [] (checked cs (plan_of gs))) (cut_from s (ks ++ t ∷ []) (checked cs (plan_of gs)))) none.0
    ∙ cut_same s (ks ++ t ∷ []) cs gs none.1 cut ∙ ap (λ l. record { binds = s; checks = l } ∷ gs) (append_assoc ks (t ∷ []) cs)

pub tiles_run : (c : Run) (from : ℕ) (gs : List GroupSteps) → TilesTo c.steps from gs (length c.steps) → Tiles c from gs
tiles_run c from [] h = h
tiles_run c from (s ∷ gs) h = (h.0, h.1, h.2, tiles_run c s.end gs h.3)
