-- Where trails can be walked, they can behind a walk: what is bound there, and what of it a row has.
use Rattle.std.proofs.Common.{◌≡◌, ◌≢◌, ℕ, zero, suc, ◌+◌, ◌<◌, nat_eq, Bool, true, false, not, ◌&&◌, ◌||◌, Option, Some, None, List, [], ◌∷◌, drop, length, set, refl, sym, ap, ap₂, ◌∙◌, subst, arith, inl, inr, ◌⊎◌, true≢false}
use Rattle.std.specs.Prelude.{if◌then◌else◌}
use Rattle.std.specs.List.{list_any}
use Rattle.std.proofs.lemmas.Bool.{cases_eq, eq-eqb, ne_eqb}
use Rattle.std.proofs.lemmas.List.{set-set, set_comm}
use Rattle.gq_base.specs.Plain.{Graph}
use Rattle.gq_base.specs.declared.NodeId.{NodeId}
use Rattle.gq_base.specs.declared.RelId.{RelId}
use Rattle.gq_law_plans.specs.Bindings.{bound}
use Rattle.gq_law_trails.specs.Trails.{arrivals, arrive_at, fits_end}
use Rattle.gq_law_trails.specs.Walks.{end_of}
use Rattle.gq_plan.specs.declared.TrailPart.{TrailPart}
use Rattle.gq_plan.specs.Allowed.{at_same}
use Rattle.gq_plan.specs.Assignments.{is_node}
use Rattle.gq_plan.specs.Meaning.{Partial, keep_if, look, with_node}
use Rattle.gq_outer.specs.Rows.{Wide, item_at}
use Rattle.gq_trails.specs.Trekking.{AreInTurn, AreNodes, placed_from}
use Rattle.gq_trails.specs.steps.Ends.{may_end, settled}
use Rattle.gq_trails.specs.steps.Journeys.{IsFit, binds, bound_at, bound_by, cleared, part_at}

-- ---- parts

pub split_parts : (parts : List TrailPart) (n : ℕ) → n < length parts → drop n parts ≡ part_at parts n ∷ drop (suc n) parts
split_parts [] n low = absurd (omega arith)
split_parts (p ∷ ps) zero low = refl
split_parts (p ∷ ps) (suc n) low = split_parts ps n (omega arith)

pub in_turn : (ps : List TrailPart) (k h : ℕ → Bool) → ((v : ℕ) → k v ≡ h v) → AreInTurn ps k → AreInTurn ps h
in_turn [] k h same t = tt
in_turn (p ∷ ps) k h same t =
    (sym (same p.from) ∙ t.0, sym (same p.to) ∙ t.1, in_turn ps (λ v. nat_eq v p.to || k v) (λ v. nat_eq v p.to || h v) (λ v. ap (λ b. nat_eq v p.to || b) (same v)) t.2)

or_true : (b : Bool) → (b || true) ≡ true
or_true true = refl
or_true false = refl

and_false : (b : Bool) → (b && false) ≡ false
and_false true = refl
and_false false = refl

-- what is known is bound by no later trail
pub not_bound : (ps : List TrailPart) (k : ℕ → Bool) (v : ℕ) → AreInTurn ps k → k v ≡ true → list_any (binds v) ps ≡ false
not_bound [] k v t known = refl
not_bound (p ∷ ps) k v t known = ap₂ ◌||◌ (go (cases_eq p.to v)) (not_bound ps (λ u. nat_eq u p.to || k u) v t.2 (ap (λ b. nat_eq v p.to || b) known ∙ or_true (nat_eq v p.to)))
  where
    go : (p.to ≡ v) ⊎ (p.to ≡ v → ⊥) → binds v p ≡ false
    go (inl same) = ap (λ b. not b && nat_eq p.to v) (sym t.1 ∙ ap k same ∙ known)
    go (inr other) = ap (λ b. not p.both && b) (ne_eqb p.to v other) ∙ and_false (not p.both)

-- ---- items

pub item_set_same : {X : Type 0} (os : List (Option X)) (v : ℕ) (o : Option X) → v < length os → item_at (set os v o) v ≡ o
item_set_same [] v o low = absurd (omega arith)
item_set_same (x ∷ os) zero o low = refl
item_set_same (x ∷ os) (suc v) o low = item_set_same os v o (omega arith)

pub item_set_other : {X : Type 0} (os : List (Option X)) (u v : ℕ) (o : Option X) → v ≢ u → item_at (set os u o) v ≡ item_at os v
item_set_other [] u v o other = refl
item_set_other (x ∷ os) zero zero o other = absurd (other refl)
item_set_other (x ∷ os) zero (suc v) o other = refl
item_set_other (x ∷ os) (suc u) zero o other = refl
item_set_other (x ∷ os) (suc u) (suc v) o other = item_set_other os u v o (λ same. other (ap suc same))

-- ---- behind a walk

module _ (g : Graph) (p : TrailPart) (a : Partial) (l : List RelId) (n : NodeId) (ends : end_of g p.way (look a.nodes p.from) l ≡ Some n) where
  pub bound_is : bound_by g p a l ≡ (if p.both then a else with_node p.to n a)
  bound_is = go p.both
    where
      go : (b : Bool) → (if b then a else bound_at p.to (end_of g p.way (look a.nodes p.from) l) a) ≡ (if b then a else with_node p.to n a)
      go true = refl
      go false = ap (λ o. bound_at p.to o a) ends

  -- whether it may end there, tells the rows at its end
  pub met_is : (may : Bool) (row : Wide) → (p.both ≡ true → item_at row.nodes p.to ≡ look a.nodes p.to) → may ≡ may_end g p row n
      → arrivals g p a (end_of g p.way (look a.nodes p.from) l) ≡ keep_if may (bound_by g p a l)
  met_is may row agrees told = ap (arrivals g p a) ends ∙ go p.both agrees told ∙ ap (keep_if may) (sym bound_is)
    where
      go : (b : Bool) → (b ≡ true → item_at row.nodes p.to ≡ look a.nodes p.to) → may ≡ (if b then at_same (item_at row.nodes p.to) (Some n) else fits_end g p n)
          → arrive_at b g p a n ≡ keep_if may (if b then a else with_node p.to n a)
      go true same e = ap (λ m. keep_if m a) (sym (e ∙ ap (λ o. at_same o (Some n)) (same refl)))
      go false same e = ap (λ m. keep_if m (with_node p.to n a)) (sym e)

  pub fit_next : (ps : List TrailPart) → IsFit g (p ∷ ps) a → is_node g n ≡ true → IsFit g ps (bound_by g p a l)
  fit_next ps fit there = subst (IsFit g ps) (sym bound_is) (go p.both fit.turns.1)
    where
      known : bound a.nodes p.to ≡ true → (v : ℕ) → (nat_eq v p.to || bound a.nodes v) ≡ bound a.nodes v
      known to v = at (cases_eq v p.to)
        where
          at : (v ≡ p.to) ⊎ (v ≡ p.to → ⊥) → (nat_eq v p.to || bound a.nodes v) ≡ bound a.nodes v
          at (inl same) = ap (λ b. b || bound a.nodes v) (eq-eqb v p.to same) ∙ sym (ap (bound a.nodes) same ∙ to)
          at (inr other) = ap (λ b. b || bound a.nodes v) (ne_eqb v p.to other)

      go : (b : Bool) → bound a.nodes p.to ≡ b → IsFit g ps (if b then a else with_node p.to n a)
      go true to = record { turns = in_turn ps (λ v. nat_eq v p.to || bound a.nodes v) (bound a.nodes) (known to) fit.turns.2; nodes = fit.nodes }
      go false to = record {
        turns = in_turn ps (λ v. nat_eq v p.to || bound a.nodes v) (bound (with_node p.to n a).nodes) (λ v. refl) fit.turns.2;
        nodes = (there, fit.nodes);
      }

  -- the row has what is bound behind it
  pub agree_next : (ps : List TrailPart) (row : Wide) → p.to < length row.nodes → ((v : ℕ) → list_any (binds v) (p ∷ ps) ≡ false → item_at row.nodes v ≡ look a.nodes v)
      → (v : ℕ) → list_any (binds v) ps ≡ false → item_at (settled p row n).nodes v ≡ look (bound_by g p a l).nodes v
  agree_next ps row within agrees v free =
      go p.both (λ b. agrees v (ap (λ c. c || list_any (binds v) ps) b ∙ free)) ∙ ap (λ (b : Partial). look b.nodes v) (sym bound_is)
    where
      go : (b : Bool) → ((not b && nat_eq p.to v) ≡ false → item_at row.nodes v ≡ look a.nodes v)
          → item_at (if b then row else record row { nodes = set row.nodes p.to (Some n) }).nodes v ≡ look (if b then a else with_node p.to n a).nodes v
      go true same = same refl
      go false same = at (cases_eq p.to v)
        where
          at : (p.to ≡ v) ⊎ (p.to ≡ v → ⊥) → item_at (set row.nodes p.to (Some n)) v ≡ look (with_node p.to n a).nodes v
          at (inl here) =
              ap (item_at (set row.nodes p.to (Some n))) (sym here) ∙ item_set_same row.nodes p.to (Some n) within
              ∙ sym (ap (λ b. if b then Some n else look a.nodes v) (eq-eqb p.to v here))
          at (inr other) =
              item_set_other row.nodes p.to v (Some n) (λ here. other (sym here)) ∙ same (ne_eqb p.to v other)
              ∙ sym (ap (λ b. if b then Some n else look a.nodes v) (ne_eqb p.to v other))

-- where the walk may not end, the row has what it had, but for what the trail binds
pub agree_still : (p : TrailPart) (ps : List TrailPart) (row : Wide) (n : NodeId) (v : ℕ) → list_any (binds v) (p ∷ ps) ≡ false → item_at (settled p row n).nodes v ≡ item_at row.nodes v
agree_still p ps row n v free = go p.both (or_left (binds v p) (list_any (binds v) ps) free)
  where
    or_left : (b c : Bool) → (b || c) ≡ false → b ≡ false
    or_left true c e = e
    or_left false c e = refl

    go : (b : Bool) → (not b && nat_eq p.to v) ≡ false → item_at (if b then row else record row { nodes = set row.nodes p.to (Some n) }).nodes v ≡ item_at row.nodes v
    go true e = refl
    go false e = item_set_other row.nodes p.to v (Some n) (λ here. true≢false (sym (eq-eqb p.to v (sym here)) ∙ e))

-- ---- the base

pub cleared_put : (ps : List TrailPart) (os : List (Option NodeId)) (i : ℕ) (o : Option NodeId) → i < length ps → (part_at ps i).both ≡ false
    → cleared ps (set os (part_at ps i).to o) ≡ cleared ps os
cleared_put [] os i o low binding = absurd (omega arith)
cleared_put (p ∷ ps) os zero o low binding = go p.both binding
  where
    go : (b : Bool) → b ≡ false → cleared ps (if b then set os p.to o else set (set os p.to o) p.to None) ≡ cleared ps (if b then os else set os p.to None)
    go true e = absurd (true≢false e)
    go false e = ap (cleared ps) (set-set os p.to o None)
cleared_put (p ∷ ps) os (suc i) o low binding =
    go p.both (cleared_put ps os i o (omega arith) binding) (cleared_put ps (set os p.to None) i o (omega arith) binding)
  where
    go : (b : Bool) → cleared ps (set os (part_at ps i).to o) ≡ cleared ps os → cleared ps (set (set os p.to None) (part_at ps i).to o) ≡ cleared ps (set os p.to None)
        → cleared ps (if b then set os (part_at ps i).to o else set (set os (part_at ps i).to o) p.to None) ≡ cleared ps (if b then os else set os p.to None)
    go true more less = more
    go false more less = at (cases_eq (part_at ps i).to p.to)
      where
        at : ((part_at ps i).to ≡ p.to) ⊎ ((part_at ps i).to ≡ p.to → ⊥) → cleared ps (set (set os (part_at ps i).to o) p.to None) ≡ cleared ps (set os p.to None)
        at (inl same) = ap (λ u. cleared ps (set (set os u o) p.to None)) same ∙ ap (cleared ps) (set-set os p.to o None)
        at (inr other) = ap (cleared ps) (set_comm os (part_at ps i).to p.to o None other) ∙ less

pub cleared_settled : (ps : List TrailPart) (row : Wide) (i : ℕ) (n : NodeId) → i < length ps → cleared ps (settled (part_at ps i) row n).nodes ≡ cleared ps row.nodes
cleared_settled ps row i n low = go (part_at ps i).both (λ e. cleared_put ps row.nodes i (Some n) low e)
  where
    go : (b : Bool) → (b ≡ false → cleared ps (set row.nodes (part_at ps i).to (Some n)) ≡ cleared ps row.nodes)
        → cleared ps (if b then row else record row { nodes = set row.nodes (part_at ps i).to (Some n) }).nodes ≡ cleared ps row.nodes
    go true put = refl
    go false put = put refl

-- where the row has nothing that a trail binds, there is nothing to clear
set_none : {X : Type 0} (os : List (Option X)) (v : ℕ) → item_at os v ≡ None → set os v None ≡ os
set_none [] v none = refl
set_none (o ∷ os) zero none = ap (λ q. q ∷ os) (sym none)
set_none (o ∷ os) (suc v) none = ap (λ qs. o ∷ qs) (set_none os v none)

pub cleared_none : (ps : List TrailPart) (k : ℕ → Bool) (os : List (Option NodeId)) → AreInTurn ps k → ((v : ℕ) → k v ≡ false → item_at os v ≡ None) → cleared ps os ≡ os
cleared_none [] k os t none = refl
cleared_none (p ∷ ps) k os t none = go p.both t.1 ∙ cleared_none ps (λ v. nat_eq v p.to || k v) os t.2 (λ v e. none v (or_right (nat_eq v p.to) (k v) e))
  where
    or_right : (b c : Bool) → (b || c) ≡ false → c ≡ false
    or_right true c e = absurd (true≢false e)
    or_right false c e = e

    go : (b : Bool) → k p.to ≡ b → cleared ps (if b then os else set os p.to None) ≡ cleared ps os
    go true e = refl
    go false e = ap (cleared ps) (set_none os p.to (none p.to e))

-- ---- a row as what is bound

-- nothing is placed below the first number
below_placed : {X : Type 0} (os : List (Option X)) (first v : ℕ) → v < first → look (placed_from first os) v ≡ None
below_placed [] first v low = refl
below_placed (None ∷ os) first v low = below_placed os (first + 1) v (omega arith)
below_placed (Some x ∷ os) first v low =
    let other : first ≢ v = omega arith in
    ap (λ b. if b then Some x else look (placed_from (first + 1) os) v) (ne_eqb first v other) ∙ below_placed os (first + 1) v (omega arith)

-- at each number stands the item
pub look_placed : {X : Type 0} (os : List (Option X)) (first i : ℕ) → look (placed_from first os) (first + i) ≡ item_at os i
look_placed [] first i = refl
look_placed (None ∷ os) first zero = below_placed os (first + 1) (first + 0) (omega arith)
look_placed (None ∷ os) first (suc i) = let at : first + suc i ≡ first + 1 + i = omega arith in ap (look (placed_from (first + 1) os)) at ∙ look_placed os (first + 1) i
look_placed (Some x ∷ os) first zero = let at : first ≡ first + 0 = omega arith in ap (λ b. if b then Some x else look (placed_from (first + 1) os) (first + 0)) (eq-eqb first (first + 0) at)
look_placed (Some x ∷ os) first (suc i) =
    let at : first + suc i ≡ first + 1 + i = omega arith in
    let other : first ≢ first + suc i = omega arith in
    ap (λ b. if b then Some x else look (placed_from (first + 1) os) (first + suc i)) (ne_eqb first (first + suc i) other)
    ∙ ap (look (placed_from (first + 1) os)) at ∙ look_placed os (first + 1) i

pub look_node : (g : Graph) (bs : List (ℕ × NodeId)) (v : ℕ) (n : NodeId) → AreNodes g bs → look bs v ≡ Some n → is_node g n ≡ true
look_node g [] v n all e = absurd (cc e)
look_node g (b ∷ bs) v n all e = go (nat_eq b.0 v) e (λ later. look_node g bs v n all.1 later)
  where
    go : (c : Bool) → (if c then Some b.1 else look bs v) ≡ Some n → (look bs v ≡ Some n → is_node g n ≡ true) → is_node g n ≡ true
    go true here more = let same : b.1 ≡ n = cc in ap (is_node g) (sym same) ∙ all.0
    go false here more = more here
