-- The steps of a group, tried one after another at one place.
use Rattle.std.proofs.Common.{◌≡◌, ◌≢◌, ◌⊎◌, inl, inr, ℕ, zero, suc, ◌+◌, ◌-◌, ◌<◌, ◌≤◌, true, false, List, [], ◌∷◌, ◌++◌, flat_map, length, take, drop, get_or, refl, sym, ap, ◌∙◌, subst, arith}
use Rattle.std.proofs.lemmas.Bool.{cases_eq}
use Rattle.std.proofs.lemmas.List.{append-nil, drop_more}
use Rattle.gq_plan.specs.Known.{Known}
use Rattle.gq_plan.specs.Meaning.{Partial, mean}
use Rattle.gq_plan.specs.Plans.{Keep, steps}
use Rattle.gq_plan.specs.declared.assignment.Assignment.{Assignment}
use Rattle.gq_law_groups.specs.Groups.{makes_group}
use Rattle.gq_steps.specs.Keeps.{made_by, made_at, IsRange, IsTriedAt}
use Rattle.gq_steps.specs.Levels.{Run, step_at, built_at, known, before, taken}
use Rattle.gq_steps.specs.Moves.{IsHeld, IsAlike, IsMade, IsMissed, IsPast, IsTried}
use Rattle.gq_steps.specs.Tries.{tries}
use Rattle.gq_steps.specs.declared.group_steps.GroupSteps.{GroupSteps}
use Rattle.gq_steps.specs.declared.plan_run.Tried.TheVariants.{Past, Missed, Made}
use Rattle.gq_steps.proofs.Binding.{before_alike, taken_alike, step_keeps_node, step_keeps_rel}
use Rattle.gq_steps.proofs.Levels.{all_tries}

-- where the steps before one have what they bind, and what the steps of the group make is what those from it on make
pub record IsGoing (c : Run) (group : GroupSteps) (place : ℕ) (old : Assignment) (d : ℕ) (row : Assignment) : Type 0 where
  pub low : group.first ≤ d
  pub high : d ≤ group.end
  pub held : IsHeld c row (known c d)
  pub alike : IsAlike (known c group.first) old row
  pub start : d ≡ group.first → row ≡ old
  pub rest : group.first < d → made_at c group place old ≡ made_by c d group.end (before c row d)
  pub first_made : group.first < d → IsMade c group.first place row row
  pub others_made : (e : ℕ) → group.first < e → e < d → IsMade c e 0 row row

module _ (c : Run) where
  pub later_node : (f d v : ℕ) → f ≤ d → (known c f).nodes v ≡ true → (known c d).nodes v ≡ true
  unfolding known
  later_node f zero v low h = let e : f ≡ 0 = omega arith in subst (λ n. (known c n).nodes v ≡ true) e h
  later_node f (suc d) v low h =
      let before_it : f ≤ d → (known c d).nodes v ≡ true = λ less. later_node f d v less h in
      elim (cases_eq f (suc d)) [ inl e ↦ subst (λ n. (known c n).nodes v ≡ true) e h | inr other ↦ step_keeps_node (step_at c d) (known c d) v (before_it (omega (arith, other))) ]

  pub later_rel : (f d v : ℕ) → f ≤ d → (known c f).rels v ≡ true → (known c d).rels v ≡ true
  unfolding known
  later_rel f zero v low h = let e : f ≡ 0 = omega arith in subst (λ n. (known c n).rels v ≡ true) e h
  later_rel f (suc d) v low h =
      let before_it : f ≤ d → (known c d).rels v ≡ true = λ less. later_rel f d v less h in
      elim (cases_eq f (suc d)) [ inl e ↦ subst (λ n. (known c n).rels v ≡ true) e h | inr other ↦ step_keeps_rel (step_at c d) (known c d) v (before_it (omega (arith, other))) ]

  pub less_held : (f d : ℕ) (row : Assignment) → f ≤ d → IsHeld c row (known c d) → IsHeld c row (known c f)
  less_held f d row low h = record {
    node_count = h.node_count;
    rel_count = h.rel_count;
    nodes = λ v e. h.nodes v (later_node f d v low e);
    rels = λ x e. h.rels x (later_rel f d x low e);
    rows = λ v e. h.rows v (later_node f d v low e);
  }

  pub less_alike : (f d : ℕ) (old new : Assignment) → f ≤ d → IsAlike (known c d) old new → IsAlike (known c f) old new
  less_alike f d old new low h = record { nodes = λ v e. h.nodes v (later_node f d v low e); rels = λ x e. h.rels x (later_rel f d x low e) }

  then_alike : (k : Known) (one two three : Assignment) → IsAlike k one two → IsAlike k two three → IsAlike k one three
  then_alike k one two three h i = record { nodes = λ v e. i.nodes v e ∙ h.nodes v e; rels = λ x e. i.rels x e ∙ h.rels x e }

  -- the item at a place, by what is behind it
  at_place : {X : Type 0} (xs : List (List X)) (n : ℕ) (x : List X) (rest : List (List X)) → drop n xs ≡ x ∷ rest → get_or xs n [] ≡ x
  at_place [] zero x rest e = cc
  at_place [] (suc n) x rest e = cc
  at_place (z ∷ xs) zero x rest e = cc
  at_place (z ∷ xs) (suc n) x rest e = at_place xs n x rest e

  at_none : {X : Type 0} (xs : List (List X)) (n : ℕ) → drop n xs ≡ [] → get_or xs n [] ≡ []
  at_none [] n e = refl
  at_none (z ∷ xs) zero e = cc
  at_none (z ∷ xs) (suc n) e = at_none xs n e

  only : {X : Type 0} (xs : List (List X)) (x : List X) (rest : List (List X)) → length xs ≤ 1 → xs ≡ x ∷ rest → rest ≡ []
  only xs x [] h e = refl
  only xs x (z ∷ rest) h e = absurd (omega (arith, ap length e))

  -- the steps from one on, step by step
  more_steps : (d end : ℕ) → d < end → end ≤ length c.steps → take (end - d) (drop d c.steps) ≡ step_at c d ∷ take (end - (d + 1)) (drop (d + 1) c.steps)
  more_steps d end low high =
      let e : end - d ≡ suc (end - (d + 1)) = omega arith in
      ap (λ n. take n (drop d c.steps)) e ∙ ap (take (suc (end - (d + 1)))) (drop_more c.steps d (Keep 0) (omega arith))

  made_more : (d end : ℕ) (a : Partial) → d < end → end ≤ length c.steps → makes_group (step_at c d) ≡ false → made_by c d end a ≡ flat_map (flat_map (made_by c (d + 1) end)) (tries c.graph c.typed (built_at c d) (step_at c d) a)
  unfolding mean
  made_more d end a low high none =
      ap (λ ss. mean c.graph c.typed (steps ss) a) (more_steps d end low high)
      ∙ sym (all_tries c.graph c.typed (built_at c d) (made_by c (d + 1) end) (step_at c d) a none)

-- what a step made stays made, as rows and load numbers have it
module _ (c : Run) where
  made_self : (d place : ℕ) (row new : Assignment) → IsMade c d place row new → IsMade c d place new new
  made_self d place row new m = record {
    held = m.held;
    alike = record { nodes = λ v e. refl; rels = λ x e. refl };
    made = subst (λ a. drop place (tries c.graph c.typed (built_at c d) (step_at c d) a) ≡ (taken c.typed new (step_at c d) a ∷ []) ∷ drop (place + 1) (tries c.graph c.typed (built_at c d) (step_at c d) a)) (sym (before_alike c row new d m.alike)) m.made;
    few = m.few;
  }

  made_still : (d e place : ℕ) (row new : Assignment) → e < d → IsHeld c new (known c d) → IsAlike (known c d) row new → IsMade c e place row row → IsMade c e place new new
  unfolding known
  made_still d e place row new low held alike m =
      let next : IsAlike (known c (suc e)) row new = less_alike c (suc e) d row new (omega (arith, low)) alike in
      let here : IsAlike (known c e) row new = less_alike c e d row new (omega (arith, low)) alike in
      let same : taken c.typed new (step_at c e) (before c row e) ≡ taken c.typed row (step_at c e) (before c row e) = taken_alike c.typed row new (step_at c e) (known c e) (before c row e) next in
      record {
        held = less_held c (suc e) d new (omega (arith, low)) held;
        alike = record { nodes = λ v e. refl; rels = λ x e. refl };
        made = subst (λ a. drop place (tries c.graph c.typed (built_at c e) (step_at c e) a) ≡ (taken c.typed new (step_at c e) a ∷ []) ∷ drop (place + 1) (tries c.graph c.typed (built_at c e) (step_at c e) a)) (sym (before_alike c row new e here))
            (m.made ∙ ap (λ b. (b ∷ []) ∷ drop (place + 1) (tries c.graph c.typed (built_at c e) (step_at c e) (before c row e))) (sym same));
        few = m.few;
      }

module _ (c : Run) (group : GroupSteps) (range : IsRange c group) (place : ℕ) (old : Assignment) where
  pub begins : IsHeld c old (known c group.first) → IsGoing c group place old group.first old
  begins held = record { low = omega arith; high = (let s = range.some in omega arith); held = held; alike = record { nodes = λ v e. refl; rels = λ x e. refl }; start = λ e. refl; rest = λ h. absurd (omega arith); first_made = λ h. absurd (omega arith); others_made = λ e up low. absurd (omega (arith, up, low)) }

  pub ends : (row : Assignment) (d : ℕ) → IsGoing c group place old d row → group.end ≤ d → IsTriedAt c group place old true row
  unfolding mean
  ends row d g high =
      let same : d ≡ group.end = (let h = g.high in omega arith) in
      let none : group.end - d ≡ 0 = omega arith in
      let s = range.some in
      record {
        held = less_held c group.first d row g.low g.held;
        alike = g.alike;
        answer = record {
          held = subst (λ n. IsHeld c row (known c n)) same g.held;
          first_made = g.first_made (omega arith);
          others_made = λ e up low. g.others_made e up (omega (arith, low, same));
          made = g.rest (omega arith) ∙ ap (λ n. mean c.graph c.typed (steps (take n (drop d c.steps))) (before c row d)) none ∙ ap (λ n. before c row n ∷ []) same;
        };
      }

  taken_is : (d : ℕ) (row new : Assignment) → IsAlike (known c d) row new → taken c.typed new (step_at c d) (before c row d) ≡ before c new (suc d)
  unfolding before
  taken_is d row new alike = ap (taken c.typed new (step_at c d)) (sym (before_alike c row new d alike))

  pub made_first : (d : ℕ) (row new : Assignment) → IsGoing c group place old d row → d ≡ group.first → IsMade c d place row new → IsGoing c group place old (suc d) new
  made_first d row new g first m =
      let s = range.some in
      let is : row ≡ old = g.start first in
      let here : get_or (tries c.graph c.typed (built_at c group.first) (step_at c group.first) (before c old group.first)) place [] ≡ before c new (suc d) ∷ [] =
      ap (λ (r : Assignment). get_or (tries c.graph c.typed (built_at c group.first) (step_at c group.first) (before c r group.first)) place []) (sym is)
      ∙ ap (λ n. get_or (tries c.graph c.typed (built_at c n) (step_at c n) (before c row n)) place []) (sym first)
      ∙ at_place c (tries c.graph c.typed (built_at c d) (step_at c d) (before c row d)) place _ _ m.made ∙ ap (λ e. e ∷ []) (taken_is d row new m.alike) in
      let next : group.first + 1 ≡ suc d = omega arith in
      record {
        low = omega (arith, g.low);
        high = omega arith;
        held = m.held;
        alike = then_alike c (known c group.first) old row new g.alike (subst (λ n. IsAlike (known c n) row new) first m.alike);
        start = λ e. absurd (omega (arith, g.low));
        first_made = λ h. subst (λ n. IsMade c n place new new) first (made_self c d place row new m);
        others_made = λ e up low. absurd (omega (arith, up, low, first));
        rest = λ h. ap (flat_map (made_by c (group.first + 1) group.end)) here ∙ append-nil (made_by c (group.first + 1) group.end (before c new (suc d))) ∙ ap (λ n. made_by c n group.end (before c new (suc d))) next;
      }

  pub made_next : (d : ℕ) (row new : Assignment) → IsGoing c group place old d row → d ≢ group.first → d < group.end → IsMade c d 0 row new → IsGoing c group place old (suc d) new
  made_next d row new g other low m =
      let l = g.low in
      let later : group.first < d = omega (arith, other) in
      let next : d + 1 ≡ suc d = omega arith in
      let more : drop 1 (tries c.graph c.typed (built_at c d) (step_at c d) (before c row d)) ≡ [] = only c (tries c.graph c.typed (built_at c d) (step_at c d) (before c row d)) _ _ (range.small d later low (before c row d)) m.made in
      record {
        low = omega arith;
        high = omega arith;
        held = m.held;
        alike = then_alike c (known c group.first) old row new g.alike (less_alike c group.first d row new g.low m.alike);
        start = λ e. absurd (omega arith);
        first_made = λ h. made_still c d group.first place row new later (less_held c d (suc d) new (omega arith) m.held) m.alike (g.first_made later);
        others_made = λ e up below. either e up below (cases_eq e d);
        rest = λ h. g.rest later ∙ made_more c d group.end (before c row d) low range.inside (range.tests d later low)
            ∙ ap (flat_map (flat_map (made_by c (d + 1) group.end))) m.made
            ∙ ap (λ xs. flat_map (made_by c (d + 1) group.end) (taken c.typed new (step_at c d) (before c row d) ∷ []) ++ flat_map (flat_map (made_by c (d + 1) group.end)) xs) more
            ∙ append-nil (flat_map (made_by c (d + 1) group.end) (taken c.typed new (step_at c d) (before c row d) ∷ []))
            ∙ append-nil (made_by c (d + 1) group.end (taken c.typed new (step_at c d) (before c row d)))
            ∙ ap (made_by c (d + 1) group.end) (taken_is d row new m.alike) ∙ ap (λ n. made_by c n group.end (before c new (suc d))) next;
      }
    where
      either : (e : ℕ) → group.first < e → e < suc d → (e ≡ d) ⊎ (e ≡ d → ⊥) → IsMade c e 0 new new
      either e up below (inl same) = subst (λ n. IsMade c n 0 new new) (sym same) (made_self c d 0 row new m)
      either e up below (inr far) = made_still c d e 0 row new (omega (arith, below, far)) (less_held c d (suc d) new (omega arith) m.held) m.alike (g.others_made e up (omega (arith, below, far)))

  -- nothing is made at the place
  stopped : (d : ℕ) (row new : Assignment) → IsGoing c group place old d row → new ≡ row → made_at c group place old ≡ [] → IsTriedAt c group place old false new
  stopped d row new g same none =
      subst (λ (r : Assignment). IsTriedAt c group place old false r) (sym same) (record { held = less_held c group.first d row g.low g.held; alike = g.alike; answer = none })

  none_here : (d : ℕ) (row : Assignment) → IsGoing c group place old d row → d ≡ group.first → get_or (tries c.graph c.typed (built_at c d) (step_at c d) (before c row d)) place [] ≡ [] → made_at c group place old ≡ []
  none_here d row g first none =
      ap (λ (r : Assignment). flat_map (made_by c (group.first + 1) group.end) (get_or (tries c.graph c.typed (built_at c group.first) (step_at c group.first) (before c r group.first)) place [])) (sym (g.start first))
      ∙ ap (λ n. flat_map (made_by c (group.first + 1) group.end) (get_or (tries c.graph c.typed (built_at c n) (step_at c n) (before c row n)) place [])) (sym first)
      ∙ ap (flat_map (made_by c (group.first + 1) group.end)) none

  pub missed_first : (d : ℕ) (row new : Assignment) → IsGoing c group place old d row → d ≡ group.first → IsMissed c d place row new → IsTriedAt c group place old false new
  missed_first d row new g first m = stopped d row new g m.same (none_here d row g first (at_place c (tries c.graph c.typed (built_at c d) (step_at c d) (before c row d)) place _ _ m.missed))

  pub past_first : (d : ℕ) (row new : Assignment) → IsGoing c group place old d row → d ≡ group.first → IsPast c d place row new → IsTriedAt c group place old false new
  past_first d row new g first m = stopped d row new g m.same (none_here d row g first (at_none c (tries c.graph c.typed (built_at c d) (step_at c d) (before c row d)) place m.past))

  pub missed_next : (d : ℕ) (row new : Assignment) → IsGoing c group place old d row → d ≢ group.first → d < group.end → IsMissed c d 0 row new → IsTriedAt c group place old false new
  missed_next d row new g other low m =
      let l = g.low in
      let later : group.first < d = omega (arith, other) in
      stopped d row new g m.same
      (g.rest later ∙ made_more c d group.end (before c row d) low range.inside (range.tests d later low)
      ∙ ap (flat_map (flat_map (made_by c (d + 1) group.end))) (m.missed ∙ ap (λ xs. [] ∷ xs) (only c (tries c.graph c.typed (built_at c d) (step_at c d) (before c row d)) _ _ (range.small d later low (before c row d)) m.missed)))

  pub past_next : (d : ℕ) (row new : Assignment) → IsGoing c group place old d row → d ≢ group.first → d < group.end → IsPast c d 0 row new → IsTriedAt c group place old false new
  past_next d row new g other low m =
      let l = g.low in
      let later : group.first < d = omega (arith, other) in
      stopped d row new g m.same (g.rest later ∙ made_more c d group.end (before c row d) low range.inside (range.tests d later low) ∙ ap (flat_map (flat_map (made_by c (d + 1) group.end))) m.past)

  -- one try more
  pub tried_made : (d at : ℕ) (row new : Assignment) → IsGoing c group place old d row → d < group.end → (d ≡ group.first → at ≡ place) → (d ≢ group.first → at ≡ 0) → (d ≡ group.first) ⊎ (d ≡ group.first → ⊥) → IsTried c d at row new Made → IsGoing c group place old (suc d) new
  tried_made d at row new g low one other (inl first) t = made_first d row new g first (subst (λ n. IsMade c d n row new) (one first) t)
  tried_made d at row new g low one other (inr far) t = made_next d row new g far low (subst (λ n. IsMade c d n row new) (other far) t)

  pub tried_missed : (d at : ℕ) (row new : Assignment) → IsGoing c group place old d row → d < group.end → (d ≡ group.first → at ≡ place) → (d ≢ group.first → at ≡ 0) → (d ≡ group.first) ⊎ (d ≡ group.first → ⊥) → IsTried c d at row new Missed → IsTriedAt c group place old false new
  tried_missed d at row new g low one other (inl first) t = missed_first d row new g first (subst (λ n. IsMissed c d n row new) (one first) t)
  tried_missed d at row new g low one other (inr far) t = missed_next d row new g far low (subst (λ n. IsMissed c d n row new) (other far) t)

  pub tried_past : (d at : ℕ) (row new : Assignment) → IsGoing c group place old d row → d < group.end → (d ≡ group.first → at ≡ place) → (d ≢ group.first → at ≡ 0) → (d ≡ group.first) ⊎ (d ≡ group.first → ⊥) → IsTried c d at row new Past → IsTriedAt c group place old false new
  tried_past d at row new g low one other (inl first) t = past_first d row new g first (subst (λ n. IsPast c d n row new) (one first) t)
  tried_past d at row new g low one other (inr far) t = past_next d row new g far low (subst (λ n. IsPast c d n row new) (other far) t)
