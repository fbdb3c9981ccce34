-- Each component has a connected order: the variables in the order in which turns bind them.
use Rattle.std.proofs.Common.{◌≡◌, ◌∙◌, ap, sym, refl, subst, ℕ, zero, suc, ◌+◌, ◌-◌, ◌^◌, ◌<◌, ◌≤◌, Bool, true, false, not, ◌&&◌, ◌||◌, cond, nat_eq, Option, Some, None, List, [], ◌∷◌, length, filter, slice_get, true≢false, arith}
use Rattle.std.specs.List.{list_any, range_with_len}
use Rattle.std.specs.Prelude.{nat_lt}
use Rattle.std.proofs.lemmas.Bool.{eqb-true, eq-eqb, ne_eqb, lt-ltb, ltb-true, and_parts, and_from, or_left, or_right, not_from_false}
use Rattle.std.proofs.lemmas.Nat.Bits.{bit_at_ones}
use Rattle.gq_base.specs.Catalogs.{Tables}
use Rattle.gq_least.proofs.Picks.{pick_is}
use Rattle.gq_least.proofs.Subsets.{same, member, member_at}
use Rattle.gq_least.specs.Choices.{pick_by}
use Rattle.gq_least.specs.Components.{members}
use Rattle.gq_least.specs.Costs.{Set, nothing, with_one, with_all, goes_on, IsOrderOf}
use Rattle.gq_least.specs.Sizes.{joined}
use Rattle.gq_least.specs.Tables.{at, subset}
use Rattle.gq_order.proofs.Grown.{piece_is}
use Rattle.gq_order.proofs.TurnReads.{none_some, some_is, found_by}
use Rattle.gq_order.specs.Greedy.{components}
use Rattle.gq_order.specs.Orders.{facing, read_by, known_by}
use Rattle.gq_order.specs.Pieces.{component, IsPieceOf}
use Rattle.gq_order.specs.Turns.{piece_by}
use Rattle.gq_order.specs.declared.order.Turn.{Turn}
use Rattle.gq_order.specs.declared.stats.Stats.{Stats}
use Rattle.gq_order.specs.Connected as turns
use Rattle.gq_order.specs.Connected.{known_after}
use Rattle.gq_plan.specs.Known.{Known, none, with_node}
use Rattle.gq_plan.specs.Soundness.{IsSound, left_of, right_of}
use Rattle.gq_plan.specs.declared.typed.Typed.{Typed}
use Rattle.gq_plan.specs.declared.typed.TypedRel.{TypedRel}

-- one that is in a set adds nothing
pub no_more : (v : ℕ) (s : Set) → s v ≡ true → with_one v s ≡ s
no_more v s on = λ i w. go w (nat_eq w v) refl i
  where
    go : (w : ℕ) (b : Bool) → nat_eq w v ≡ b → (nat_eq w v || s w) ≡ s w
    go w true e = or_left (nat_eq w v) (s w) e ∙ sym (ap s (eqb-true w v e) ∙ on)
    go w false e = ap (λ b. b || s w) e

any_at : {X : Type 0} (p : X → Bool) (xs : List X) (i : ℕ) (x : X) → slice_get xs i ≡ Some x → p x ≡ true → list_any p xs ≡ true
any_at p [] i x e h = absurd (none_some x e)
any_at p (z ∷ zs) zero x e h = or_left (p z) (list_any p zs) (ap p (some_is z x e) ∙ h)
any_at p (z ∷ zs) (suc i) x e h = or_right (p z) (list_any p zs) (any_at p zs i x e h)

-- a relationship with just one end in a set joins the other end to it
module _ (s : Set) where
  joins_by : ℕ → TypedRel → Bool
  joins_by v r = not (nat_eq r.source r.target) && ((nat_eq r.source v && s r.target) || (nat_eq r.target v && s r.source))

  apart : (a b : ℕ) → s a ≡ true → s b ≡ false → nat_eq a b ≡ false
  apart a b on off = ne_eqb a b (λ e. true≢false (sym on ∙ ap s e ∙ off))

  two_ends : (c : Bool) (r : TypedRel) → s (cond c r.target r.source) ≡ true → s (cond c r.source r.target) ≡ false
      → (not (nat_eq r.source r.target) && ((nat_eq r.source (cond c r.source r.target) && s r.target) || (nat_eq r.target (cond c r.source r.target) && s r.source))) ≡ true
  two_ends true r on off =
      and_from (not (nat_eq r.source r.target)) _ (not_from_false (nat_eq r.source r.target) (ne_eqb r.source r.target (λ e. true≢false (sym on ∙ ap s (sym e) ∙ off))))
      (or_left (nat_eq r.source r.source && s r.target) _ (and_from (nat_eq r.source r.source) (s r.target) (eq-eqb r.source r.source refl) on))
  two_ends false r on off =
      and_from (not (nat_eq r.source r.target)) _ (not_from_false (nat_eq r.source r.target) (apart r.source r.target on off))
      (or_right (nat_eq r.source r.target && s r.target) _ (and_from (nat_eq r.target r.target) (s r.source) (eq-eqb r.target r.target refl) on))

  rel_joins : (b : Bool) (r : TypedRel) → s (left_of (facing b r)) ≡ true → s (right_of (facing b r)) ≡ false
      → (not (nat_eq r.source r.target) && ((nat_eq r.source (right_of (facing b r)) && s r.target) || (nat_eq r.target (right_of (facing b r)) && s r.source))) ≡ true
  rel_joins true r on off = two_ends (not r.reversed) r on off
  rel_joins false r on off = two_ends r.reversed r on off

module _ (y : Typed) where
  -- variables that go on from one set to another
  pub record Grows (s e : Set) : Type 0 where
    pub nodes : List ℕ
    pub goes : goes_on (joined y) s nodes ≡ true
    pub all : with_all nodes s ≡ e

  grown : (ts : List Turn) (k : Known) → turns.is_connected y k ts ≡ true → Grows k.nodes (known_after y k ts).nodes
  grown [] k h = record { nodes = []; goes = refl; all = refl }
  grown (t ∷ ts) k h =
      let parts = and_parts (turns.goes_on k t.rel (read_by y t)) (turns.is_connected y (known_by k t.rel (read_by y t)) ts) h in
      go (read_by y t) refl parts.0 (grown ts (known_by k t.rel (read_by y t)) parts.1)
    where
      go : (found : Option TypedRel) → read_by y t ≡ found → turns.goes_on k t.rel found ≡ true
          → Grows (known_by k t.rel found).nodes (known_after y (known_by k t.rel found) ts).nodes
          → Grows k.nodes (known_after y (known_by k t.rel found) ts).nodes
      go None e g more = more
      go (Some r) e g more = new (k.nodes (right_of r)) refl
        where
          ends : Set
          ends = (known_after y (known_by k t.rel (Some r)) ts).nodes

          new : (b : Bool) → k.nodes (right_of r) ≡ b → Grows k.nodes ends
          new true m = subst (λ s. Grows s ends) (no_more (right_of r) k.nodes m) more
          new false m =
              let found = found_by y t r e in
              let left = (and_parts (not (k.rels t.rel)) (k.nodes (left_of r)) g).1 in
              let p = λ (q : TypedRel). not (nat_eq q.source q.target) && ((nat_eq q.source (right_of r) && k.nodes q.target) || (nat_eq q.target (right_of r) && k.nodes q.source)) in
              let here : p found.rel ≡ true =
              subst (λ z. (not (nat_eq found.rel.source found.rel.target) && ((nat_eq found.rel.source (right_of z) && k.nodes found.rel.target) || (nat_eq found.rel.target (right_of z) && k.nodes found.rel.source))) ≡ true) found.facing
              (rel_joins k.nodes t.from_right found.rel (ap (λ z. k.nodes (left_of z)) found.facing ∙ left) (ap (λ z. k.nodes (right_of z)) found.facing ∙ m)) in
              record {
                nodes = right_of r ∷ more.nodes;
                goes =
                    and_from (not (k.nodes (right_of r)) && joined y (right_of r) k.nodes) _
                    (and_from (not (k.nodes (right_of r))) (joined y (right_of r) k.nodes) (not_from_false (k.nodes (right_of r)) m) (any_at p y.rels t.rel found.rel found.is here)) more.goes;
                all = more.all;
              }

-- ---- the variables of a component

pub kept_at : (p : ℕ → Bool) (n a i : ℕ) → i < length (filter p (range_with_len a n)) → (at (filter p (range_with_len a n)) i < a + n) × (p (at (filter p (range_with_len a n)) i) ≡ true)
kept_at p zero a i lt = absurd (omega arith)
kept_at p (suc n) a i lt = go (p a) refl i (λ j h. kept_at p n (a + 1) j h) lt
  where
    rest : List ℕ
    rest = filter p (range_with_len (a + 1) n)

    go : (b : Bool) → p a ≡ b → (i : ℕ) → ((j : ℕ) → j < length rest → (at rest j < a + 1 + n) × (p (at rest j) ≡ true)) → i < length (cond b (a ∷ rest) rest) → (at (cond b (a ∷ rest) rest) i < a + suc n) × (p (at (cond b (a ∷ rest) rest) i) ≡ true)
    go true e zero more h = (omega arith, e)
    go true e (suc i) more h = let m = more i (omega arith) in (let l = m.0 in omega (arith, l), m.1)
    go false e i more h = let m = more i h in (let l = m.0 in omega (arith, l), m.1)

pub record Kept_at (xs : List ℕ) (v : ℕ) : Type 0 where
  pub place : ℕ
  pub within : place < length xs
  pub is : v ≡ at xs place

pub kept_has : (p : ℕ → Bool) (n a v : ℕ) → a ≤ v → v < a + n → p v ≡ true → Kept_at (filter p (range_with_len a n)) v
kept_has p zero a v low lt on = absurd (omega arith)
kept_has p (suc n) a v low lt on = go (nat_eq v a) refl (λ k. kept_has p n (a + 1) v k (omega arith) on)
  where
    rest : List ℕ
    rest = filter p (range_with_len (a + 1) n)

    later : (b : Bool) → Kept_at rest v → Kept_at (cond b (a ∷ rest) rest) v
    later true k = record { place = k.place + 1; within = (let w = k.within in omega (arith, w)); is = k.is ∙ at_next a rest k.place }
      where
        at_next : (a : ℕ) (xs : List ℕ) (i : ℕ) → at xs i ≡ at (a ∷ xs) (i + 1)
        at_next a xs i = let s : suc i ≡ i + 1 = omega arith in ap (at (a ∷ xs)) s
    later false k = k

    go : (b : Bool) → nat_eq v a ≡ b → (a + 1 ≤ v → Kept_at rest v) → Kept_at (cond (p a) (a ∷ rest) rest) v
    go true e more =
        let here = eqb-true v a e in
        subst (λ b. Kept_at (cond b (a ∷ rest) rest) v) (sym (ap p (sym here) ∙ on)) (record { place = 0; within = omega arith; is = here })
    go false e more =
        let ne : v ≡ a → ⊥ = λ k. true≢false (sym (eq-eqb v a k) ∙ e) in
        later (p a) (more (omega (arith, ne, low)))

-- the largest number has all variables
pub full : (y : Typed) (c : ℕ) → subset (members y c) (2 ^ length (members y c) - 1) ≡ (component y c).nodes
full y c = λ i v. same (subset nodes (2 ^ m - 1) v) ((component y c).nodes v) (there v) (back v) i
  where
    p : ℕ → Bool
    p v = nat_eq (at (components y) v) c

    nodes : List ℕ
    nodes = members y c

    m : ℕ
    m = length nodes

    there : (v : ℕ) → subset nodes (2 ^ m - 1) v ≡ true → (component y c).nodes v ≡ true
    there v e =
        let k = member nodes (2 ^ m - 1) v e in
        let h = kept_at (λ u. nat_eq (at (components y) u) c) (length y.nodes) 0 k.place k.within in
        and_from (nat_lt v (length y.nodes)) (nat_eq (at (components y) v) c) (lt-ltb v (length y.nodes) (let l = h.0 in let i = k.is in omega (arith, l, i)))
        (ap (λ u. nat_eq (at (components y) u) c) k.is ∙ h.1)

    back : (v : ℕ) → (component y c).nodes v ≡ true → subset nodes (2 ^ m - 1) v ≡ true
    back v e =
        let parts = and_parts (nat_lt v (length y.nodes)) (nat_eq (at (components y) v) c) e in
        let k = kept_has (λ u. nat_eq (at (components y) u) c) (length y.nodes) 0 v (omega arith) (let l = ltb-true v (length y.nodes) parts.0 in omega (arith, l)) parts.1 in
        member_at nodes (2 ^ m - 1) v k.place k.within (bit_at_ones m k.place k.within) k.is

module _ (catalog : Tables) (y : Typed) (stats : Stats) (sound : IsSound catalog y) where
  pub record Some_order (c : ℕ) : Type 0 where
    pub order : List ℕ
    pub is_order : IsOrderOf (joined y) (component y c).nodes order

  -- each component has an order
  pub some_order : (c : ℕ) → c < length y.nodes → at (components y) c ≡ c → Some_order c
  some_order c lt own =
      let p = piece_by y (pick_by y []) c in
      let is : IsPieceOf y c p = piece_is catalog y stats sound (pick_by y []) (pick_is y []) c c lt own in
      let g = grown y p.turns (with_node c none) is.connected in
      record {
        order = c ∷ g.nodes;
        is_order = record { connected = g.goes; lists = g.all ∙ ap (λ (k : Known). k.nodes) is.binds };
      }

  -- and each order of it begins in it
  pub begins_in : (c v : ℕ) (vs : List ℕ) → with_all (v ∷ vs) nothing ≡ (component y c).nodes → (v < length y.nodes) × (at (components y) v ≡ c)
  begins_in c v vs e =
      let on : (component y c).nodes v ≡ true = sym (ap (λ s. s v) e) ∙ stays vs (with_one v nothing) (or_left (nat_eq v v) false (eq-eqb v v refl)) in
      let parts = and_parts (nat_lt v (length y.nodes)) (nat_eq (at (components y) v) c) on in
      (ltb-true v (length y.nodes) parts.0, eqb-true (at (components y) v) c parts.1)
    where
      stays : (ws : List ℕ) (s : Set) → s v ≡ true → with_all ws s v ≡ true
      stays [] s h = h
      stays (w ∷ ws) s h = stays ws (with_one w s) (or_right (nat_eq v w) (s v) h)
