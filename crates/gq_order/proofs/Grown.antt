-- The turns of a choice bind just one component.
use Rattle.std.proofs.Common.{◌≡◌, ◌∙◌, ap, sym, refl, ℕ, zero, suc, ◌<◌, Bool, true, false, not, ◌&&◌, ◌||◌, Option, Some, None, List, [], ◌∷◌, filter, length, slice_get, eqb, ltb, true≢false, arith, subst}
use Rattle.std.specs.List.{range_with_len}
use Rattle.std.proofs.lemmas.Bool.{and_parts, and_from, eqb-true, eq-eqb, lt-ltb, ltb-true}
use Rattle.gq_base.specs.Catalogs.{Tables}
use Rattle.gq_order.proofs.Complete.{ends_of}
use Rattle.gq_order.proofs.Numbered.{AllEnds, IsNumbered, are_numbered, are_joined, are_connected}
use Rattle.gq_order.proofs.Taken.{each_at, at_each, least_of_each, same_bool, both_ends, same_ends, turns_connected, Stuck, turns_stuck, least_each, passes_each, no_least}
use Rattle.gq_order.proofs.TurnReads.{Ends, ends_within, right_within, found_by}
use Rattle.gq_order.specs.Given.{known_with}
use Rattle.gq_order.specs.Greedy.{at, components, least, fan_from, extends, extending, next, turn_then, weight, start, turns, piece}
use Rattle.gq_order.specs.Orders.{facing, read_by, known_by}
use Rattle.gq_order.specs.Connected.{known_after, goes_on, is_connected}
use Rattle.gq_order.specs.Pieces.{component, IsPieceOf}
use Rattle.gq_order.specs.Turns.{IsPick, next_by, turns_by, piece_by}
use Rattle.gq_order.specs.declared.order.Turn.{Turn}
use Rattle.gq_order.specs.declared.stats.Stats.{Stats}
use Rattle.gq_plan.proofs.Each.{each_then, each_kept, each_below}
use Rattle.gq_plan.specs.Known.{Known, none, with_node}
use Rattle.gq_plan.specs.Meaning.{holds}
use Rattle.gq_plan.specs.Soundness.{IsSound, left_of, right_of}
use Rattle.gq_plan.specs.declared.typed.Typed.{Typed}
use Rattle.gq_plan.specs.declared.typed.TypedRel.{TypedRel}

or_right : (a b : Bool) → b ≡ true → (a || b) ≡ true
or_right true b m = refl
or_right false b m = m

or_false : (a : Bool) → (a || false) ≡ a
or_false true = refl
or_false false = refl

holds_more : {X : Type 0} (p q : X → Bool) → ((x : X) → p x ≡ true → q x ≡ true) → (found : Option X) → holds p found ≡ true → holds q found ≡ true
holds_more p q h None e = e
holds_more p q h (Some x) e = h x e

module _ (catalog : Tables) (y : Typed) (stats : Stats) (sound : IsSound catalog y) where
  pub rel_ends : (x : ℕ) (r : TypedRel) → slice_get y.rels x ≡ Some r → Ends y r
  rel_ends x r found = ends_within catalog y r (ends_of catalog y sound x r found)

  abbrev n : ℕ
  n = length y.nodes

  pub all_ends : AllEnds n y.rels
  all_ends = each_at (λ r. (r.source < n) × (r.target < n)) y.rels (λ x r found. let e = rel_ends x r found in (e.source, e.target))

  abbrev number : ℕ → ℕ
  number v = at (components y) v

  pub numbered : IsNumbered n (components y)
  numbered = are_numbered y all_ends

  pub same_number : (x : ℕ) (r : TypedRel) → slice_get y.rels x ≡ Some r → number r.source ≡ number r.target
  same_number x r found = at_each (λ q. number q.source ≡ number q.target) y.rels x r (are_joined y all_ends) found

  -- ---- one component

  -- what is bound lies in a component, and each relationship has both its ends bound
  pub record Inside (c s : ℕ) (k : Known) : Type 0 where
    pub nodes : (v : ℕ) → k.nodes v ≡ true → (ltb v n && eqb (number v) c) ≡ true
    pub rels : (x : ℕ) → k.rels x ≡ true → holds (λ r. k.nodes r.source && k.nodes r.target) (slice_get y.rels x) ≡ true
    pub start : k.nodes s ≡ true

  with_inside : (c s : ℕ) (k : Known) (t : Turn) (q : TypedRel) → slice_get y.rels t.rel ≡ Some q → Inside c s k → k.nodes (left_of (facing t.from_right q)) ≡ true
      → Inside c s (known_with k t.rel (facing t.from_right q))
  with_inside c s k t q found h left = record {
    nodes = λ v. node_in v (eqb v right) refl;
    rels = λ x. rel_in x (eqb x t.rel) refl;
    start = or_right (eqb s right) (k.nodes s) h.start;
  }
    where
      right : ℕ
      right = right_of (facing t.from_right q)

      l : Known
      l = known_with k t.rel (facing t.from_right q)

      right_in : (ltb right n && eqb (number right) c) ≡ true
      right_in =
          and_from (ltb right n) (eqb (number right) c) (lt-ltb right n (right_within y q (rel_ends t.rel q found) t.from_right))
          (ap (λ m. eqb m c) (sym (same_ends number t.from_right q (same_number t.rel q found)))
          ∙ (and_parts (ltb (left_of (facing t.from_right q)) n) (eqb (number (left_of (facing t.from_right q))) c) (h.nodes (left_of (facing t.from_right q)) left)).1)

      node_in : (v : ℕ) (b : Bool) → eqb v right ≡ b → (b || k.nodes v) ≡ true → (ltb v n && eqb (number v) c) ≡ true
      node_in v true m e = ap (λ w. ltb w n && eqb (number w) c) (eqb-true v right m) ∙ right_in
      node_in v false m e = h.nodes v e

      both : (l.nodes q.source && l.nodes q.target) ≡ true
      both =
          both_ends l.nodes t.from_right q (or_right (eqb (left_of (facing t.from_right q)) right) (k.nodes (left_of (facing t.from_right q))) left)
          (ap (λ b. b || k.nodes right) (eq-eqb right right refl))

      more : (r : TypedRel) → (k.nodes r.source && k.nodes r.target) ≡ true → (l.nodes r.source && l.nodes r.target) ≡ true
      more r e =
          let parts = and_parts (k.nodes r.source) (k.nodes r.target) e in
          and_from (l.nodes r.source) (l.nodes r.target) (or_right (eqb r.source right) (k.nodes r.source) parts.0) (or_right (eqb r.target right) (k.nodes r.target) parts.1)

      rel_in : (x : ℕ) (b : Bool) → eqb x t.rel ≡ b → (b || k.rels x) ≡ true → holds (λ r. l.nodes r.source && l.nodes r.target) (slice_get y.rels x) ≡ true
      rel_in x true m e = ap (λ z. holds (λ r. l.nodes r.source && l.nodes r.target) (slice_get y.rels z)) (eqb-true x t.rel m) ∙ ap (holds (λ r. l.nodes r.source && l.nodes r.target)) found ∙ both
      rel_in x false m e = holds_more (λ r. k.nodes r.source && k.nodes r.target) (λ r. l.nodes r.source && l.nodes r.target) more (slice_get y.rels x) (h.rels x e)

  pub turn_inside : (c s : ℕ) (k : Known) (t : Turn) → Inside c s k → goes_on k t.rel (read_by y t) ≡ true → Inside c s (known_by k t.rel (read_by y t))
  turn_inside c s k t h g = go (read_by y t) refl g
    where
      go : (found : Option TypedRel) → read_by y t ≡ found → goes_on k t.rel found ≡ true → Inside c s (known_by k t.rel found)
      go None e m = absurd (true≢false (sym m))
      go (Some r) e m =
          let found = found_by y t r e in
          let parts = and_parts (not (k.rels t.rel)) (k.nodes (left_of r)) m in
          subst (λ q. Inside c s (known_with k t.rel q)) found.facing
          (with_inside c s k t found.rel found.is h (ap (λ q. k.nodes (left_of q)) found.facing ∙ parts.1))

  after_inside : (c s : ℕ) (ts : List Turn) (k : Known) → Inside c s k → is_connected y k ts ≡ true → Inside c s (known_after y k ts)
  after_inside c s [] k h e = h
  after_inside c s (t ∷ ts) k h e =
      let parts = and_parts (goes_on k t.rel (read_by y t)) (is_connected y (known_by k t.rel (read_by y t)) ts) e in
      after_inside c s ts (known_by k t.rel (read_by y t)) (turn_inside c s k t h parts.0) parts.1

  -- where no relationship is left that has an end that is bound, a whole component is bound
  all_inside : (c s : ℕ) (k : Known) → s < n → number s ≡ c → Inside c s k → Stuck y k → k ≡ component y c
  all_inside c s k lt is h stuck = λ i. record { nodes = λ v. nodes v i; rels = λ x. rels x i }
    where
      closed : (x : ℕ) (r : TypedRel) → slice_get y.rels x ≡ Some r → k.nodes r.source ≡ k.nodes r.target
      closed x r found = go (k.rels x) refl
        where
          both : (a b : Bool) → (a && b) ≡ true → a ≡ b
          both true true e = refl
          both true false e = absurd (true≢false (sym e))
          both false b e = absurd (true≢false (sym e))

          neither : (a b : Bool) → (a || b) ≡ false → a ≡ b
          neither true b e = absurd (true≢false e)
          neither false true e = absurd (true≢false e)
          neither false false e = refl

          go : (b : Bool) → k.rels x ≡ b → k.nodes r.source ≡ k.nodes r.target
          go true e = both (k.nodes r.source) (k.nodes r.target) (sym (ap (holds (λ q. k.nodes q.source && k.nodes q.target)) found) ∙ h.rels x e)
          go false e = neither (k.nodes r.source) (k.nodes r.target) (stuck x r found e)

      whole : (v : ℕ) → v < n → k.nodes (number v) ≡ k.nodes v
      whole = are_connected y all_ends k.nodes (each_at (λ r. k.nodes r.source ≡ k.nodes r.target) y.rels closed)

      nodes : (v : ℕ) → k.nodes v ≡ (ltb v n && eqb (number v) c)
      nodes v = same_bool (k.nodes v) (ltb v n && eqb (number v) c) (h.nodes v) (λ e.
          let parts = and_parts (ltb v n) (eqb (number v) c) e in
          sym (whole v (ltb-true v n parts.0)) ∙ ap k.nodes (eqb-true (number v) c parts.1 ∙ sym is) ∙ whole s lt ∙ h.start)

      rels : (x : ℕ) → k.rels x ≡ holds (λ r. eqb (number r.source) c) (slice_get y.rels x)
      rels x = go (slice_get y.rels x) refl
        where
          go : (found : Option TypedRel) → slice_get y.rels x ≡ found → k.rels x ≡ holds (λ r. eqb (number r.source) c) found
          go None e = same_bool (k.rels x) false (λ m. sym (ap (holds (λ r. k.nodes r.source && k.nodes r.target)) e) ∙ h.rels x m) (λ m. absurd (true≢false (sym m)))
          go (Some r) e =
              same_bool (k.rels x) (eqb (number r.source) c)
              (λ m.
              let ends = and_parts (k.nodes r.source) (k.nodes r.target) (sym (ap (holds (λ q. k.nodes q.source && k.nodes q.target)) e) ∙ h.rels x m) in
              (and_parts (ltb r.source n) (eqb (number r.source) c) (h.nodes r.source ends.0)).1)
              (λ m. back (k.rels x) refl (nodes r.source ∙ and_from (ltb r.source n) (eqb (number r.source) c) (lt-ltb r.source n (rel_ends x r e).source) m))
            where
              back : (b : Bool) → k.rels x ≡ b → k.nodes r.source ≡ true → k.rels x ≡ true
              back true free m = free
              back false free m = absurd (true≢false (sym (ap (λ a. a || k.nodes r.target) m) ∙ stuck x r e free))

  -- ---- the piece of a component

  pub piece_is : (pick : Known → Option ℕ) → IsPick y pick → (c s : ℕ) → s < n → number s ≡ c → IsPieceOf y c (piece_by y pick s)
  piece_is pick good c s within is =
      let k = with_node s none in
      let connected = turns_connected y pick good (length y.rels) k in
      record {
        within = within;
        own = is;
        connected = connected;
        binds =
            all_inside c s (known_after y k (turns_by y pick (length y.rels) k)) within is
            (after_inside c s (turns_by y pick (length y.rels) k) k
            (record {
              nodes = λ v e.
                  let same : v ≡ s = eqb-true v s (sym (or_false (eqb v s)) ∙ e) in
                  and_from (ltb v n) (eqb (number v) c) (ap (λ w. ltb w n) same ∙ lt-ltb s n within) (ap (λ w. eqb (number w) c) same ∙ eq-eqb (number s) c is);
              rels = λ x e. absurd (true≢false (sym e));
              start = ap (λ b. b || false) (eq-eqb s s refl);
            })
            connected)
            (turns_stuck y pick good (length y.rels) k (omega arith));
      }

  -- ---- the piece of least weight and fans

  pub record Started (c s : ℕ) : Type 0 where
    pub within : s < n
    pub is : number s ≡ c

  pub start_in : (c : ℕ) → c < n → number c ≡ c → Started c (start catalog y stats c)
  start_in c lt is =
      least_of_each (Started c) (weight catalog y stats) c (filter (λ v. eqb (number v) c) (range_with_len 0 n)) (record { within = lt; is = is })
      (each_then (λ v. (v < n) × (eqb (number v) c ≡ true)) (Started c) (λ v h. record { within = h.0; is = eqb-true (number v) c h.1 }) (filter (λ v. eqb (number v) c) (range_with_len 0 n))
      (each_kept (λ v. v < n) (λ v. eqb (number v) c) (range_with_len 0 n) (each_below 0 n n (omega arith))))

  -- the choice of the least fan
  abbrev by_fan : Known → Option ℕ
  by_fan k = least (fan_from catalog y stats k) (extending y k)

  is_pick : IsPick y by_fan
  is_pick = record {
    some = λ k x e. least_each (λ z. extends y k z ≡ true) (fan_from catalog y stats k) (extending y k) x (passes_each (extends y k) (range_with_len 0 (length y.rels))) e;
    none = λ k e. no_least (fan_from catalog y stats k) (extending y k) e;
  }

  next_same : (k : Known) → next catalog y stats k ≡ next_by y by_fan k
  unfolding next
  next_same k = refl

  turns_same : (fuel : ℕ) (k : Known) → turns catalog y stats fuel k ≡ turns_by y by_fan fuel k
  turns_same zero k = refl
  turns_same (suc fuel) k =
      ap (λ o. turn_then o (λ t. turns catalog y stats fuel (known_by k t.rel (read_by y t)))) (next_same k)
      ∙ go (next_by y by_fan k) (λ t. turns_same fuel (known_by k t.rel (read_by y t)))
    where
      go : (o : Option Turn) → ((t : Turn) → turns catalog y stats fuel (known_by k t.rel (read_by y t)) ≡ turns_by y by_fan fuel (known_by k t.rel (read_by y t)))
          → turn_then o (λ t. turns catalog y stats fuel (known_by k t.rel (read_by y t))) ≡ turn_then o (λ t. turns_by y by_fan fuel (known_by k t.rel (read_by y t)))
      go None more = refl
      go (Some t) more = ap (λ ts. t ∷ ts) (more t)

  pub greedy_piece : (c : ℕ) → c < n → number c ≡ c → IsPieceOf y c (piece catalog y stats c)
  greedy_piece c lt is =
      let s = start catalog y stats c in
      let h = start_in c lt is in
      subst (λ ts. IsPieceOf y c (record { first = s; turns = ts })) (sym (turns_same (length y.rels) (with_node s none))) (piece_is by_fan is_pick c s h.within h.is)
