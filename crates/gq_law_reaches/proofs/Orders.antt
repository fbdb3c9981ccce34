-- The trails of a query are walked from what is known, and bind each variable outside the core.
use Rattle.std.proofs.Common.{◌≡◌, ℕ, zero, suc, ◌+◌, ◌<◌, ◌≤◌, Bool, true, false, ◌||◌, cond, nat_eq, nat_lt, List, [], ◌∷◌, filter, length, refl, sym, ap, ap₂, ◌∙◌, arith, inl, inr, ◌⊎◌, true≢false}
use Rattle.std.specs.List.{AllByRecursion, list_any, range_with_len}
use Rattle.std.proofs.lemmas.Bool.{cases_eq, eq-eqb, ne_eqb, or_right}
use Rattle.gq_plan.specs.Soundness.{has_number}
use Rattle.gq_scopes.specs.Patterns.{Pattern, MapEntry}
use Rattle.gq_law_trails.specs.Met.{AreOrdered, EndBound, knows_more}
use Rattle.gq_plan.specs.declared.TrailPart.{TrailPart}
use Rattle.gq_law_reaches.specs.Core.{core_nodes, first_core, grown, part_of, parts_from}
use Rattle.gq_law_reaches.specs.Cores.{AreReached, is_end}
use Rattle.gq_law_reaches.specs.Reaches.{TrailPattern, Trailed}
use Rattle.gq_law_reaches.specs.Turned.{IsBinding, binds}
use Rattle.gq_plan.specs.declared.NamedExpr.{NamedExpr}

or_or : (a b : Bool) → (a || b) ≡ false → (a ≡ false) × (b ≡ false)
or_or true b e = absurd (true≢false e)
or_or false b e = (refl, e)

-- ---- what is known

has_more : (known : List ℕ) (a b v : ℕ) → has_number known v ≡ true → has_number (a ∷ b ∷ known) v ≡ true
has_more known a b v e = more (nat_eq v a) (nat_eq v b) (has_number known v) e
  where
    more : (x y z : Bool) → z ≡ true → (x || (y || z)) ≡ true
    more true y z e = refl
    more false true z e = refl
    more false false z e = e

has_fewer : (known : List ℕ) (a b v : ℕ) → has_number (a ∷ b ∷ known) v ≡ false → has_number known v ≡ false
has_fewer known a b v e = (or_or (nat_eq v b) (has_number known v) (or_or (nat_eq v a) (nat_eq v b || has_number known v) e).1).1

in_front : (x z : Bool) → z ≡ true → (x || z) ≡ true
in_front true z e = refl
in_front false z e = e

pub grown_keeps : (ws : List TrailPattern) (core bound : List ℕ) (v : ℕ) → has_number core v ≡ true → has_number (grown core bound ws) v ≡ true
grown_keeps [] core bound v e = e
grown_keeps (w ∷ ws) core bound v e =
    go (has_number bound w.left || has_number bound w.right) (grown_keeps ws core (w.left ∷ w.right ∷ bound) v e)
    (grown_keeps ws (w.left ∷ core) (w.left ∷ w.right ∷ bound) v (in_front (nat_eq v w.left) (has_number core v) e))
  where
    go : (b : Bool) → has_number (grown core (w.left ∷ w.right ∷ bound) ws) v ≡ true → has_number (grown (w.left ∷ core) (w.left ∷ w.right ∷ bound) ws) v ≡ true
        → has_number (cond b (grown core (w.left ∷ w.right ∷ bound) ws) (grown (w.left ∷ core) (w.left ∷ w.right ∷ bound) ws)) v ≡ true
    go true kept more = kept
    go false kept more = more

-- the core has an end of each trail that no trail before it and no piece has
either_first : (x y : Bool) → x ≡ true → (x || y) ≡ true
either_first true y e = refl
either_first false y e = absurd (true≢false (sym e))

more_known : (x y z u : Bool) → (z ≡ true → u ≡ true) → (x || (y || z)) ≡ true → (x || (y || u)) ≡ true
more_known true y z u h e = refl
more_known false true z u h e = refl
more_known false false z u h e = h e

reached_from : (n : ℕ) (ws : List TrailPattern) (core bound known : List ℕ) → AllByRecursion (λ (w : TrailPattern). (w.left < n) × (w.right < n)) ws
    → ((v : ℕ) → v < n → has_number bound v ≡ true → has_number known v ≡ true)
    → ((v : ℕ) → v < n → has_number (grown core bound ws) v ≡ true → has_number known v ≡ true)
    → AreReached known ws
reached_from n [] core bound known ends has grows = tt
reached_from n (w ∷ ws) core bound known ends has grows =
    go (has_number bound w.left) (has_number bound w.right) refl refl
    (λ more. reached_from n ws core (w.left ∷ w.right ∷ bound) (w.left ∷ w.right ∷ known) ends.1 (later has) more)
    (λ more. reached_from n ws (w.left ∷ core) (w.left ∷ w.right ∷ bound) (w.left ∷ w.right ∷ known) ends.1 (later has) more)
  where
    later : ((v : ℕ) → v < n → has_number bound v ≡ true → has_number known v ≡ true) → (v : ℕ) → v < n → has_number (w.left ∷ w.right ∷ bound) v ≡ true → has_number (w.left ∷ w.right ∷ known) v ≡ true
    later has v low e = more_known (nat_eq v w.left) (nat_eq v w.right) (has_number bound v) (has_number known v) (has v low) e

    go : (a b : Bool) → has_number bound w.left ≡ a → has_number bound w.right ≡ b
        → (((v : ℕ) → v < n → has_number (grown core (w.left ∷ w.right ∷ bound) ws) v ≡ true → has_number (w.left ∷ w.right ∷ known) v ≡ true) → AreReached (w.left ∷ w.right ∷ known) ws)
        → (((v : ℕ) → v < n → has_number (grown (w.left ∷ core) (w.left ∷ w.right ∷ bound) ws) v ≡ true → has_number (w.left ∷ w.right ∷ known) v ≡ true) → AreReached (w.left ∷ w.right ∷ known) ws)
        → AreReached known (w ∷ ws)
    go true b left right kept grew = (
      either_first (has_number known w.left) (has_number known w.right) (has w.left ends.0.0 left),
      kept (λ v low e. has_more known w.left w.right v (grows v low (ap (λ c. has_number (cond (c || has_number bound w.right) (grown core (w.left ∷ w.right ∷ bound) ws) (grown (w.left ∷ core) (w.left ∷ w.right ∷ bound) ws)) v) left ∙ e))),
    )
    go false true left right kept grew = (
      in_front (has_number known w.left) (has_number known w.right) (has w.right ends.0.1 right),
      kept (λ v low e. has_more known w.left w.right v (grows v low (ap₂ (λ c d. has_number (cond (c || d) (grown core (w.left ∷ w.right ∷ bound) ws) (grown (w.left ∷ core) (w.left ∷ w.right ∷ bound) ws)) v) left right ∙ e))),
    )
    go false false left right kept grew = (
      either_first (has_number known w.left) (has_number known w.right)
          (grows w.left ends.0.0
          (ap₂ (λ c d. has_number (cond (c || d) (grown core (w.left ∷ w.right ∷ bound) ws) (grown (w.left ∷ core) (w.left ∷ w.right ∷ bound) ws)) w.left) left right
          ∙ grown_keeps ws (w.left ∷ core) (w.left ∷ w.right ∷ bound) w.left (ap (λ c. c || has_number core w.left) (eq-eqb w.left w.left refl)))),
      grew (λ v low e. has_more known w.left w.right v (grows v low (ap₂ (λ c d. has_number (cond (c || d) (grown core (w.left ∷ w.right ∷ bound) ws) (grown (w.left ∷ core) (w.left ∷ w.right ∷ bound) ws)) v) left right ∙ e))),
    )

in_range : (f : ℕ → Bool) (v n first : ℕ) → first ≤ v → v < first + n → f v ≡ true → has_number (filter f (range_with_len first n)) v ≡ true
in_range f v zero first low high e = absurd (omega arith)
in_range f v (suc n) first low high e = go (cases_eq v first) (f first) refl (λ more. in_range f v n (first + 1) more (omega arith) e)
  where
    go : (v ≡ first) ⊎ (v ≡ first → ⊥) → (b : Bool) → f first ≡ b → (first + 1 ≤ v → has_number (filter f (range_with_len (first + 1) n)) v ≡ true)
        → has_number (cond b (first ∷ filter f (range_with_len (first + 1) n)) (filter f (range_with_len (first + 1) n))) v ≡ true
    go (inl here) true is later = ap (λ c. c || has_number (filter f (range_with_len (first + 1) n)) v) (eq-eqb v first here)
    go (inl here) false is later = absurd (true≢false (sym e ∙ ap f here ∙ is))
    go (inr other) true is later = ap (λ c. c || has_number (filter f (range_with_len (first + 1) n)) v) (ne_eqb v first other) ∙ later (omega (arith, other))
    go (inr other) false is later = later (omega (arith, other))

pub core_reaches : (q : Trailed) → AllByRecursion (λ (w : TrailPattern). (w.left < length q.pattern.names) × (w.right < length q.pattern.names)) q.trails → AreReached (core_nodes q) q.trails
core_reaches q ends =
    let all : List ℕ = grown (first_core q) (first_core q) q.trails in
    reached_from (length q.pattern.names) q.trails (first_core q) (first_core q) (core_nodes q) ends
    (λ v low e. in_range (has_number all) v (length q.pattern.names) 0 (omega arith) (omega arith) (grown_keeps q.trails (first_core q) (first_core q) v e))
    (λ v low e. in_range (has_number all) v (length q.pattern.names) 0 (omega arith) (omega arith) e)

-- ---- how its trails are walked

module _ (test : MapEntry → NamedExpr) (p : Pattern) where
  at_one : (left right : Bool) (k : ℕ → Bool) (w : TrailPattern) → (left || right) ≡ true → k w.left ≡ left → k w.right ≡ right
      → (k (part_of test p left right w).from ≡ true) × EndBound (part_of test p left right w).both (k (part_of test p left right w).to)
  at_one true true k w one l r = (l, r)
  at_one true false k w one l r = (l, tt)
  at_one false true k w one l r = (r, tt)
  at_one false false k w one l r = absurd (true≢false (sym one))

  pub knows_on : (left right : Bool) (k : ℕ → Bool) (w : TrailPattern) → (left || right) ≡ true → k w.left ≡ left → k w.right ≡ right
      → (v : ℕ) → knows_more (part_of test p left right w).both (part_of test p left right w).to k v ≡ (nat_eq v w.left || (nat_eq v w.right || k v))
  knows_on true true k w one l r v = both (cases_eq v w.left) (cases_eq v w.right)
    where
      both : (v ≡ w.left) ⊎ (v ≡ w.left → ⊥) → (v ≡ w.right) ⊎ (v ≡ w.right → ⊥) → k v ≡ (nat_eq v w.left || (nat_eq v w.right || k v))
      both (inl a) b = ap k a ∙ l ∙ sym (ap (λ c. c || (nat_eq v w.right || k v)) (eq-eqb v w.left a))
      both (inr a) (inl b) = ap k b ∙ r ∙ sym (ap₂ (λ c d. c || (d || k v)) (ne_eqb v w.left a) (eq-eqb v w.right b))
      both (inr a) (inr b) = sym (ap₂ (λ c d. c || (d || k v)) (ne_eqb v w.left a) (ne_eqb v w.right b))
  knows_on true false k w one l r v = left_known (cases_eq v w.left)
    where
      left_known : (v ≡ w.left) ⊎ (v ≡ w.left → ⊥) → (nat_eq v w.right || k v) ≡ (nat_eq v w.left || (nat_eq v w.right || k v))
      left_known (inl a) = or_right (nat_eq v w.right) (k v) (ap k a ∙ l) ∙ sym (ap (λ c. c || (nat_eq v w.right || k v)) (eq-eqb v w.left a))
      left_known (inr a) = sym (ap (λ c. c || (nat_eq v w.right || k v)) (ne_eqb v w.left a))
  knows_on false true k w one l r v = right_known (cases_eq v w.right)
    where
      right_known : (v ≡ w.right) ⊎ (v ≡ w.right → ⊥) → (nat_eq v w.left || k v) ≡ (nat_eq v w.left || (nat_eq v w.right || k v))
      right_known (inl b) = ap (λ c. nat_eq v w.left || c) (ap k b ∙ r ∙ sym (ap (λ c. c || k v) (eq-eqb v w.right b)))
      right_known (inr b) = ap (λ c. nat_eq v w.left || c) (sym (ap (λ c. c || k v) (ne_eqb v w.right b)))
  knows_on false false k w one l r v = absurd (true≢false (sym one))

  pub ordered_from : (ws : List TrailPattern) (known : List ℕ) (k : ℕ → Bool) → ((v : ℕ) → k v ≡ has_number known v) → AreReached known ws → AreOrdered (parts_from test p known ws) k
  ordered_from [] known k same reached = tt
  ordered_from (w ∷ ws) known k same reached =
      let here = at_one (has_number known w.left) (has_number known w.right) k w reached.0 (same w.left) (same w.right) in (
        here.0,
        here.1,
        ordered_from ws (w.left ∷ w.right ∷ known)
            (knows_more (part_of test p (has_number known w.left) (has_number known w.right) w).both (part_of test p (has_number known w.left) (has_number known w.right) w).to k)
            (λ v. knows_on (has_number known w.left) (has_number known w.right) k w reached.0 (same w.left) (same w.right) v ∙ ap (λ c. nat_eq v w.left || (nat_eq v w.right || c)) (same v)) reached.1,
      )

  -- ---- what its trails bind

  binding_one : (left right : Bool) (k : ℕ) (w : TrailPattern) → (left ≡ false → nat_lt w.left k ≡ false) → (right ≡ false → nat_lt w.right k ≡ false) → IsBinding test k p (part_of test p left right w)
  binding_one true true k w l r both = absurd (true≢false both)
  binding_one true false k w l r both = (r refl, refl, refl)
  binding_one false true k w l r both = (l refl, refl, refl)
  binding_one false false k w l r both = (l refl, refl, refl)

  pub binding_from : (ws : List TrailPattern) (known : List ℕ) (k : ℕ) → ((v : ℕ) → has_number known v ≡ false → nat_lt v k ≡ false) → AllByRecursion (IsBinding test k p) (parts_from test p known ws)
  binding_from [] known k low = tt
  binding_from (w ∷ ws) known k low = (
    binding_one (has_number known w.left) (has_number known w.right) k w (low w.left) (low w.right),
    binding_from ws (w.left ∷ w.right ∷ known) k (λ v e. low v (has_fewer known w.left w.right v e)),
  )

  end_one : (left right : Bool) (n : ℕ) (w : TrailPattern) → w.left < n → w.right < n → (part_of test p left right w).to < n
  end_one true right n w l r = r
  end_one false right n w l r = l

  pub ends_from : (ws : List TrailPattern) (known : List ℕ) (n : ℕ) → AllByRecursion (λ (w : TrailPattern). (w.left < n) × (w.right < n)) ws
      → AllByRecursion (λ (q : TrailPart). q.to < n) (parts_from test p known ws)
  ends_from [] known n ends = tt
  ends_from (w ∷ ws) known n ends =
      (end_one (has_number known w.left) (has_number known w.right) n w ends.0.0 ends.0.1, ends_from ws (w.left ∷ w.right ∷ known) n ends.1)

  -- an end of a trail that is not known is bound
  binds_one : (left right : Bool) (v : ℕ) (w : TrailPattern) → (left || right) ≡ true → (w.left ≡ v → left ≡ false) → (w.right ≡ v → right ≡ false) → is_end v w ≡ true → binds v (part_of test p left right w) ≡ true
  binds_one true true v w one l r e = absurd (none (cases_eq w.left v) (cases_eq w.right v))
    where
      none : (w.left ≡ v) ⊎ (w.left ≡ v → ⊥) → (w.right ≡ v) ⊎ (w.right ≡ v → ⊥) → ⊥
      none (inl a) b = true≢false (l a)
      none (inr a) (inl b) = true≢false (r b)
      none (inr a) (inr b) = true≢false (sym e ∙ ap₂ ◌||◌ (ne_eqb w.left v a) (ne_eqb w.right v b))
  binds_one true false v w one l r e = go (cases_eq w.left v)
    where
      go : (w.left ≡ v) ⊎ (w.left ≡ v → ⊥) → nat_eq w.right v ≡ true
      go (inl a) = absurd (true≢false (l a))
      go (inr a) = ap (λ c. c || nat_eq w.right v) (sym (ne_eqb w.left v a)) ∙ e
  binds_one false true v w one l r e = go (cases_eq w.right v) (nat_eq w.left v) e
    where
      go : (w.right ≡ v) ⊎ (w.right ≡ v → ⊥) → (b : Bool) → (b || nat_eq w.right v) ≡ true → b ≡ true
      go (inl a) b h = absurd (true≢false (r a))
      go (inr a) true h = refl
      go (inr a) false h = sym (ne_eqb w.right v a) ∙ h
  binds_one false false v w one l r e = absurd (true≢false (sym one))

  pub binds_from : (ws : List TrailPattern) (known : List ℕ) (v : ℕ) → AreReached known ws → has_number known v ≡ false → list_any (is_end v) ws ≡ true → list_any (binds v) (parts_from test p known ws) ≡ true
  binds_from [] known v reached none e = absurd (true≢false (sym e))
  binds_from (w ∷ ws) known v reached none e = go (is_end v w) refl e (λ none_later more. binds_from ws (w.left ∷ w.right ∷ known) v reached.1 none_later more)
    where
      unknown : (u : ℕ) → u ≡ v → has_number known u ≡ false
      unknown u same = ap (has_number known) same ∙ none

      turn : (u : ℕ) → nat_eq u v ≡ false → nat_eq v u ≡ false
      turn u e = ne_eqb v u (λ same. true≢false (sym (eq-eqb u v (sym same)) ∙ e))

      go : (b : Bool) → is_end v w ≡ b → (b || list_any (is_end v) ws) ≡ true
          → (has_number (w.left ∷ w.right ∷ known) v ≡ false → list_any (is_end v) ws ≡ true → list_any (binds v) (parts_from test p (w.left ∷ w.right ∷ known) ws) ≡ true)
          → list_any (binds v) (parts_from test p known (w ∷ ws)) ≡ true
      go true here more later =
          ap (λ c. c || list_any (binds v) (parts_from test p (w.left ∷ w.right ∷ known) ws))
          (binds_one (has_number known w.left) (has_number known w.right) v w reached.0 (unknown w.left) (unknown w.right) here)
      go false here more later =
          let apart = or_or (nat_eq w.left v) (nat_eq w.right v) here in
          in_front (binds v (part_of test p (has_number known w.left) (has_number known w.right) w)) (list_any (binds v) (parts_from test p (w.left ∷ w.right ∷ known) ws))
          (later (ap₂ (λ c d. c || (d || has_number known v)) (turn w.left apart.0) (turn w.right apart.1) ∙ none) more)
