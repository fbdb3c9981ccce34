-- One more relationship leads to where as many led before, and on from there.
use Rattle.std.proofs.Common.{◌≡◌, ◌⊎◌, inl, inr, ℕ, zero, suc, ◌≤◌, Bool, true, not, ◌&&◌, ◌||◌, Option, Some, None, List, [], ◌∷◌, refl, sym, ap, ◌∙◌, subst, arith, true≢false}
use Rattle.std.specs.List.{list_any}
use Rattle.std.proofs.lemmas.Bool.{and_parts, and_from}
use Rattle.gq_base.specs.Plain.{Graph}
use Rattle.gq_base.specs.declared.NodeId.{NodeId}
use Rattle.gq_base.specs.declared.RelId.{RelId}
use Rattle.gq_base.specs.declared.direction.Direction.{Direction}
use Rattle.gq_plan.specs.Allowed.{at_same}
use Rattle.gq_plan.specs.Assignments.{all_rels, same_node, same_rel}
use Rattle.gq_plan.specs.Meaning.{far, near}
use Rattle.gq_plan.proofs.Products.{same_rel_is}
use Rattle.gq_law_plans.proofs.Wholes.{bool_iff}
use Rattle.gq_law_ends.specs.Leading.{leads_to}
use Rattle.gq_law_ends.specs.Levels.{OneLeads, OneMoreLeads, steps_to}
use Rattle.gq_law_trails.specs.Walks.{is_of_type, may_follow}
use Rattle.gq_law_ends.proofs.Leading.{Passing, any_more, any_there, or_first, or_parts, or_second, passing}
use Rattle.gq_law_ends.proofs.Reaching.{node_is, node_itself}

-- a node of a list that passes a test
record Here (p : NodeId → Bool) (ns : List NodeId) : Type 0 where
  pub node : NodeId
  pub passes : p node ≡ true
  pub there : list_any (same_node node) ns ≡ true

here : (p : NodeId → Bool) (ns : List NodeId) → list_any p ns ≡ true → Here p ns
here p [] h = absurd (true≢false (sym h))
here p (n ∷ ns) h =
    elim (or_parts (p n) (list_any p ns) h) as (λ _. Here p (n ∷ ns)) [
      | inl e ↦ record { node = n; passes = e; there = or_first (same_node n n) (list_any (same_node n) ns) (node_itself n) }
      | inr e ↦ let more = here p ns e in
          record { node = more.node; passes = more.passes; there = or_second (same_node more.node n) (list_any (same_node more.node) ns) more.there }
    ]

module _ (g : Graph) (kind : List ℕ) (way : Direction) (used : List RelId) where
  abbrev leads : ℕ → Option NodeId → NodeId → Bool
  leads high at n = leads_to g kind way used high at n

  abbrev steps : Option NodeId → NodeId → Bool
  steps at n = steps_to g kind way used at n

  abbrev may : Option NodeId → RelId → Bool
  may at r = may_follow g kind way at used r

  abbrev goes : ℕ → Option NodeId → NodeId → RelId → Bool
  goes high at n r = may at r && (at_same (far g way r) (Some n) || leads high (far g way r) n)

  -- what a relationship of the graph passes
  passes_at : (p : RelId → Bool) (first : Passing p (all_rels g)) (q : RelId → Bool) → q first.rel ≡ true → list_any q (all_rels g) ≡ true
  passes_at p first q h = any_there (same_rel first.rel) q (λ z e. subst (λ r. q r ≡ true) (sym (same_rel_is first.rel z e)) h) (all_rels g) first.there

  leads_by : (high : ℕ) (at : Option NodeId) (n : NodeId) → leads (suc high) at n ≡ list_any (goes high at n) (all_rels g)
  unfolding leads_to
  leads_by high at n = refl

  steps_lead : (high : ℕ) (at : Option NodeId) (n : NodeId) → steps at n ≡ true → leads (suc high) at n ≡ true
  steps_lead high at n h =
      leads_by high at n
      ∙ any_more (λ r. may at r && at_same (far g way r) (Some n)) (goes high at n)
      (λ r k. let parts = and_parts (may at r) (at_same (far g way r) (Some n)) k in
      and_from (may at r) (at_same (far g way r) (Some n) || leads high (far g way r) n) parts.0 (or_first (at_same (far g way r) (Some n)) (leads high (far g way r) n) parts.1))
      (all_rels g) h

  leads_none : (at : Option NodeId) (n : NodeId) → leads zero at n ≡ true → ⊥
  unfolding leads_to
  leads_none at n h = true≢false (sym h)

  -- by way of a relationship
  lead_by_way : (high : ℕ) (at : Option NodeId) (n : NodeId) (p : RelId → Bool) (first : Passing p (all_rels g)) → may at first.rel ≡ true
      → (at_same (far g way first.rel) (Some n) || leads high (far g way first.rel) n) ≡ true → leads (suc high) at n ≡ true
  lead_by_way high at n p first m h =
      leads_by high at n ∙ passes_at p first (goes high at n) (and_from (may at first.rel) (at_same (far g way first.rel) (Some n) || leads high (far g way first.rel) n) m h)

  leads_more : (high : ℕ) (at : Option NodeId) (n : NodeId) → leads high at n ≡ true → leads (suc high) at n ≡ true
  leads_more zero at n h = absurd (leads_none at n h)
  leads_more (suc high) at n h =
      leads_by (suc high) at n
      ∙ any_more (goes high at n) (goes (suc high) at n)
      (λ r k. let parts = and_parts (may at r) (at_same (far g way r) (Some n) || leads high (far g way r) n) k in
      and_from (may at r) (at_same (far g way r) (Some n) || leads (suc high) (far g way r) n) parts.0
      (elim (or_parts (at_same (far g way r) (Some n)) (leads high (far g way r) n) parts.1) as (λ _. (at_same (far g way r) (Some n) || leads (suc high) (far g way r) n) ≡ true) [
        | inl e ↦ or_first (at_same (far g way r) (Some n)) (leads (suc high) (far g way r) n) e
        | inr e ↦ or_second (at_same (far g way r) (Some n)) (leads (suc high) (far g way r) n) (leads_more high (far g way r) n e)
      ]))
      (all_rels g) (sym (leads_by high at n) ∙ h)

  -- ---- the last relationship

  same_end : (o : Option NodeId) (m : NodeId) → at_same o (Some m) ≡ true → o ≡ Some m
  same_end None m e = absurd (true≢false (sym e))
  same_end (Some k) m e = ap Some (node_is k m e)

  leads_on : (high : ℕ) (at : Option NodeId) (m n : NodeId) → leads high at m ≡ true → steps (Some m) n ≡ true → leads (suc high) at n ≡ true
  leads_on zero at m n h s = absurd (leads_none at m h)
  leads_on (suc high) at m n h s =
      let first = passing (goes high at m) (all_rels g) (sym (leads_by high at m) ∙ h) in
      let o : Option NodeId = far g way first.rel in
      let parts = and_parts (may at first.rel) (at_same o (Some m) || leads high o m) first.passes in
      lead_by_way (suc high) at n (goes high at m) first parts.0
      (or_second (at_same o (Some n)) (leads (suc high) o n)
      (elim (or_parts (at_same o (Some m)) (leads high o m) parts.1) as (λ _. leads (suc high) o n ≡ true) [
        | inl e ↦ subst (λ k. leads (suc high) k n ≡ true) (sym (same_end o m e)) (steps_lead high (Some m) n s)
        | inr e ↦ leads_on high o m n e s
      ]))

  -- the node from which the last one leads on
  record Before (high : ℕ) (at : Option NodeId) (n : NodeId) : Type 0 where
    pub node : NodeId
    pub leads_there : leads high at node ≡ true
    pub steps_on : steps (Some node) n ≡ true

  step_none : (n : NodeId) → steps None n ≡ true → ⊥
  step_none n h =
      let first = passing (λ r. may None r && at_same (far g way r) (Some n)) (all_rels g) h in
      let r = first.rel in
      let parts = and_parts (may None r) (at_same (far g way r) (Some n)) first.passes in
      let met = and_parts (is_of_type g kind r && at_same None (near g way r)) (not (list_any (same_rel r) used)) parts.0 in
      true≢false (sym (and_parts (is_of_type g kind r) (at_same None (near g way r)) met.0).1)

  leads_back : (high : ℕ) (at : Option NodeId) (n : NodeId) → leads (suc high) at n ≡ true → (steps at n ≡ true) ⊎ Before high at n
  leads_back zero at n h =
      let first = passing (goes zero at n) (all_rels g) (sym (leads_by zero at n) ∙ h) in
      let o : Option NodeId = far g way first.rel in
      let parts = and_parts (may at first.rel) (at_same o (Some n) || leads zero o n) first.passes in
      elim (or_parts (at_same o (Some n)) (leads zero o n) parts.1) as (λ _. (steps at n ≡ true) ⊎ Before zero at n) [
        | inl e ↦ inl (passes_at (goes zero at n) first (λ r. may at r && at_same (far g way r) (Some n)) (and_from (may at first.rel) (at_same o (Some n)) parts.0 e))
        | inr e ↦ absurd (leads_none o n e)
      ]
  leads_back (suc high) at n h =
      let first = passing (goes (suc high) at n) (all_rels g) (sym (leads_by (suc high) at n) ∙ h) in
      let o : Option NodeId = far g way first.rel in
      let parts = and_parts (may at first.rel) (at_same o (Some n) || leads (suc high) o n) first.passes in
      elim (or_parts (at_same o (Some n)) (leads (suc high) o n) parts.1) as (λ _. (steps at n ≡ true) ⊎ Before (suc high) at n) [
        | inl e ↦ inl (passes_at (goes (suc high) at n) first (λ r. may at r && at_same (far g way r) (Some n)) (and_from (may at first.rel) (at_same o (Some n)) parts.0 e))
        | inr e ↦ inr (behind first parts.0 (far g way first.rel) refl (leads_back high o n e))
      ]
    where
      behind : (first : Passing (goes (suc high) at n) (all_rels g)) → may at first.rel ≡ true → (o : Option NodeId) → far g way first.rel ≡ o
          → (steps (far g way first.rel) n ≡ true) ⊎ Before high (far g way first.rel) n → Before (suc high) at n
      behind first m None is (inl s) = absurd (step_none n (subst (λ k. steps k n ≡ true) is s))
      behind first m (Some k) is (inl s) = record {
        node = k;
        leads_there = lead_by_way high at k (goes (suc high) at n) first m
            (or_first (at_same (far g way first.rel) (Some k)) (leads high (far g way first.rel) k) (subst (λ q. at_same q (Some k) ≡ true) (sym is) (node_itself k)));
        steps_on = subst (λ q. steps q n ≡ true) is s;
      }
      behind first m o is (inr b) = record {
        node = b.node;
        leads_there = lead_by_way high at b.node (goes (suc high) at n) first m (or_second (at_same (far g way first.rel) (Some b.node)) (leads high (far g way first.rel) b.node) b.leads_there);
        steps_on = b.steps_on;
      }

  -- ---- the laws

  one_leads_here : (at : Option NodeId) (n : NodeId) → leads 1 at n ≡ steps at n
  one_leads_here at n = bool_iff (leads 1 at n) (steps at n) (λ h. from (leads_back zero at n h)) (λ h. steps_lead zero at n h)
    where
      from : (steps at n ≡ true) ⊎ Before zero at n → steps at n ≡ true
      from (inl s) = s
      from (inr b) = absurd (leads_none at b.node b.leads_there)

  further : (high : ℕ) (at : Option NodeId) (ms : List NodeId) (n : NodeId) → ((m : NodeId) → list_any (same_node m) ms ≡ leads (suc high) at m)
      → leads (suc (suc high)) at n ≡ (list_any (same_node n) ms || list_any (λ m. steps (Some m) n) ms)
  further high at ms n are =
      bool_iff (leads (suc (suc high)) at n) (list_any (same_node n) ms || list_any (λ m. steps (Some m) n) ms) (λ h. from (leads_back (suc high) at n h))
      (λ h. to (or_parts (list_any (same_node n) ms) (list_any (λ m. steps (Some m) n) ms) h))
    where
      from : (steps at n ≡ true) ⊎ Before (suc high) at n → (list_any (same_node n) ms || list_any (λ m. steps (Some m) n) ms) ≡ true
      from (inl s) = or_first (list_any (same_node n) ms) (list_any (λ m. steps (Some m) n) ms) (are n ∙ steps_lead high at n s)
      from (inr b) =
          or_second (list_any (same_node n) ms) (list_any (λ m. steps (Some m) n) ms)
          (any_more (same_node b.node) (λ m. steps (Some m) n) (λ m e. subst (λ k. steps (Some k) n ≡ true) (node_is b.node m e) b.steps_on) ms (are b.node ∙ b.leads_there))

      to : (list_any (same_node n) ms ≡ true) ⊎ (list_any (λ m. steps (Some m) n) ms ≡ true) → leads (suc (suc high)) at n ≡ true
      to (inl e) = leads_more (suc high) at n (sym (are n) ∙ e)
      to (inr e) = let m = here (λ m. steps (Some m) n) ms e in leads_on (suc high) at m.node n (sym (are m.node) ∙ m.there) m.passes

pub one_leads : OneLeads
one_leads g kind way used at n = one_leads_here g kind way used at n

pub one_more_leads : OneMoreLeads
one_more_leads g kind way used zero at ms n some are = absurd (none some)
  where
    none : 1 ≤ 0 → ⊥
    none h = omega (arith, h)
one_more_leads g kind way used (suc high) at ms n some are = further g kind way used high at ms n are
