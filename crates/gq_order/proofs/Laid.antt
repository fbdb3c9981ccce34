-- The pieces of all components, one by one, are an order of the alternative.
use Rattle.std.proofs.Common.{◌≡◌, ◌∙◌, ap, sym, refl, ℕ, zero, suc, ◌+◌, ◌<◌, ◌≤◌, Bool, true, false, ◌&&◌, ◌||◌, cond, Option, Some, None, List, [], ◌∷◌, map, filter, length, slice_get, eqb, ltb, true≢false, arith, subst}
use Rattle.std.specs.List.{range_with_len, All, AllZip}
use Rattle.std.proofs.lemmas.Bool.{and_from, eqb-true, eqb-false, eq-eqb, ne_eqb, lt-ltb, le-ltb, ltb-true, ltb-false}
use Rattle.std.proofs.lemmas.List.Elements.{All-nil, All-cons}
use Rattle.gq_base.specs.Catalogs.{Tables}
use Rattle.gq_order.proofs.ByNumber.{earlier}
use Rattle.gq_order.proofs.Grown.{rel_ends, numbered}
use Rattle.gq_order.specs.Greedy.{at, components, numbers}
use Rattle.gq_order.specs.Pieces.{component, IsPieceOf, TakeComponents}
use Rattle.gq_order.specs.Connected.{known_after, is_connected, bound_alone}
use Rattle.gq_order.specs.steps.Orders.{known_then, IsFine, Binds, IsOrderFrom, IsOrder}
use Rattle.gq_order.specs.declared.order.Piece.{Piece}
use Rattle.gq_order.specs.declared.stats.Stats.{Stats}
use Rattle.gq_plan.proofs.Pieces.{some_at}
use Rattle.gq_plan.specs.Known.{Known, none, with_node, with_both}
use Rattle.gq_plan.specs.Meaning.{holds}
use Rattle.gq_plan.specs.Soundness.{IsSound}
use Rattle.gq_plan.specs.declared.typed.Typed.{Typed}
use Rattle.gq_plan.specs.declared.typed.TypedRel.{TypedRel}

or_false : (a : Bool) → (a || false) ≡ a
or_false true = refl
or_false false = refl

-- pieces by the numbers of their components
abbrev pub AreOf : Typed → (ℕ → Piece) → Type 0
AreOf y part = (c : ℕ) → c < length y.nodes → at (components y) c ≡ c → IsPieceOf y c (part c)

abbrev pub tops : Typed → ℕ → ℕ → List ℕ
tops y a m = filter (λ v. eqb (at (components y) v) v) (range_with_len a m)

module _ (catalog : Tables) (y : Typed) (stats : Stats) (sound : IsSound catalog y) (part : ℕ → Piece) (are : AreOf y part) where
  abbrev n : ℕ
  n = length y.nodes

  abbrev number : ℕ → ℕ
  number v = at (components y) v

  -- ---- all components

  -- one more component is bound
  pub next_earlier : (c : ℕ) → with_both (component y c) (earlier y c) ≡ earlier y (c + 1)
  next_earlier c = λ i. record { nodes = λ v. nodes (ltb v n) (number v) i; rels = λ x. rels (slice_get y.rels x) i }
    where
      below : (m : ℕ) → (eqb m c || ltb m c) ≡ ltb m (c + 1)
      below m = go (eqb m c) refl
        where
          go : (b : Bool) → eqb m c ≡ b → (b || ltb m c) ≡ ltb m (c + 1)
          go true e =
              let same : m ≡ c = eqb-true m c e in
              sym (lt-ltb m (c + 1) (omega arith))
          go false e = other (ltb m c) refl
            where
              other : (b : Bool) → ltb m c ≡ b → ltb m c ≡ ltb m (c + 1)
              other true f =
                  let lt = ltb-true m c f in
                  f ∙ sym (lt-ltb m (c + 1) (omega arith))
              other false f =
                  let le = ltb-false m c f in
                  let ne = eqb-false m c e in
                  f ∙ sym (le-ltb m (c + 1) (omega (arith, ne)))

      nodes : (b : Bool) (m : ℕ) → ((b && eqb m c) || (b && ltb m c)) ≡ (b && ltb m (c + 1))
      nodes true m = below m
      nodes false m = refl

      rels : (found : Option TypedRel) → (holds (λ r. eqb (number r.source) c) found || holds (λ r. ltb (number r.source) c) found) ≡ holds (λ r. ltb (number r.source) (c + 1)) found
      rels None = refl
      rels (Some r) = below (number r.source)

  -- a number that no component has
  pub skip_earlier : (c : ℕ) → c < n → eqb (number c) c ≡ false → earlier y c ≡ earlier y (c + 1)
  skip_earlier c lt e = λ i. record { nodes = λ v. nodes v (ltb v n) refl i; rels = λ x. rels x (slice_get y.rels x) refl i }
    where
      other : (v : ℕ) → v < n → ltb (number v) c ≡ ltb (number v) (c + 1)
      other v low = go (ltb (number v) c) refl
        where
          go : (b : Bool) → ltb (number v) c ≡ b → ltb (number v) c ≡ ltb (number v) (c + 1)
          go true f =
              let less = ltb-true (number v) c f in
              f ∙ sym (lt-ltb (number v) (c + 1) (omega arith))
          go false f =
              let le = ltb-false (number v) c f in
              let ne : number v ≡ c → ⊥ = λ m. true≢false (sym (eq-eqb (number c) c (ap number (sym m) ∙ (numbered catalog y stats sound).own v low ∙ m)) ∙ e) in
              f ∙ sym (le-ltb (number v) (c + 1) (omega (arith, ne)))

      nodes : (v : ℕ) (b : Bool) → ltb v n ≡ b → (ltb v n && ltb (number v) c) ≡ (ltb v n && ltb (number v) (c + 1))
      nodes v true m = ap (λ a. ltb v n && a) (other v (ltb-true v n m))
      nodes v false m = ap (λ a. a && ltb (number v) c) m ∙ sym (ap (λ a. a && ltb (number v) (c + 1)) m)

      rels : (x : ℕ) (found : Option TypedRel) → slice_get y.rels x ≡ found → holds (λ r. ltb (number r.source) c) (slice_get y.rels x) ≡ holds (λ r. ltb (number r.source) (c + 1)) (slice_get y.rels x)
      rels x None f = ap (holds (λ r. ltb (number r.source) c)) f ∙ sym (ap (holds (λ r. ltb (number r.source) (c + 1))) f)
      rels x (Some r) f =
          ap (holds (λ r. ltb (number r.source) c)) f ∙ other r.source (rel_ends catalog y stats sound x r f).source ∙ sym (ap (holds (λ r. ltb (number r.source) (c + 1))) f)

  -- the piece of a component comes when those before it are bound
  pub start_new : (c : ℕ) → c < n → number c ≡ c → (earlier y c).nodes ((part c).first) ≡ false
  start_new c lt is =
      let h = are c lt is in
      ap (λ a. ltb ((part c).first) n && a) (le-ltb (number ((part c).first)) c (omega (arith, h.own))) ∙ none_of (ltb ((part c).first) n)
    where
      none_of : (a : Bool) → (a && false) ≡ false
      none_of true = refl
      none_of false = refl

  fine_by : (c : ℕ) (k : Known) → c < n → number c ≡ c → k.nodes ((part c).first) ≡ false → ((x : ℕ) → ((component y c).rels x && k.rels x) ≡ false) → IsFine y k (part c)
  fine_by c k lt is new apart = record {
    first = (are c lt is).within;
    turns = ap (λ b. is_connected y (cond b k (with_node ((part c).first) none)) (part c).turns) new ∙ (are c lt is).connected;
    apart = λ m x. ap (λ l. l.rels x && k.rels x) ((are c lt is).binds) ∙ apart x;
  }

  pub piece_fine : (c : ℕ) → c < n → number c ≡ c → IsFine y (earlier y c) (part c)
  piece_fine c lt is = fine_by c (earlier y c) lt is (start_new c lt is) (λ x. go (slice_get y.rels x))
    where
      not_less : (m : ℕ) (b : Bool) → eqb m c ≡ b → (b && ltb m c) ≡ false
      not_less m true e =
          let same : m ≡ c = eqb-true m c e in
          le-ltb m c (omega arith)
      not_less m false e = refl

      go : (found : Option TypedRel) → (holds (λ r. eqb (number r.source) c) found && holds (λ r. ltb (number r.source) c) found) ≡ false
      go None = refl
      go (Some r) = not_less (number r.source) (eqb (number r.source) c) refl

  pub piece_then : (c : ℕ) → c < n → number c ≡ c → known_then y (earlier y c) (part c) ≡ earlier y (c + 1)
  piece_then c lt is =
      ap (λ b. cond b (known_after y (earlier y c) (part c).turns) (with_both (bound_alone y (part c)) (earlier y c))) (start_new c lt is)
      ∙ ap (λ k. with_both k (earlier y c)) ((are c lt is).binds)
      ∙ next_earlier c

  all_bound : Binds y (earlier y n)
  all_bound = record {
    nodes = λ v lt. and_from (ltb v n) (ltb (number v) n) (lt-ltb v n lt) (let b = (numbered catalog y stats sound).before v lt in lt-ltb (number v) n (omega arith));
    rels = λ x lt.
        let t = some_at y.rels x lt in
        let low = (rel_ends catalog y stats sound x t.0 t.1).source in
        let b = (numbered catalog y stats sound).before t.0.source low in
        ap (holds (λ r. ltb (number r.source) n)) t.1 ∙ lt-ltb (number t.0.source) n (omega arith);
  }

  order_from : (m a : ℕ) → a + m ≡ n → IsOrderFrom y (earlier y a) (map part (tops y a m))
  order_from zero a e =
      let is : n ≡ a = omega arith in
      subst (λ c. Binds y (earlier y c)) is all_bound
  order_from (suc m) a e = go (eqb (number a) a) refl (order_from m (a + 1) (omega arith))
    where
      go : (b : Bool) → eqb (number a) a ≡ b → IsOrderFrom y (earlier y (a + 1)) (map part (tops y (a + 1) m))
          → IsOrderFrom y (earlier y a) (map part (cond (eqb (number a) a) (a ∷ tops y (a + 1) m) (tops y (a + 1) m)))
      go true is more =
          let lt : a < n = omega arith in
          let own : number a ≡ a = eqb-true (number a) a is in
          subst (λ b. IsOrderFrom y (earlier y a) (map part (cond b (a ∷ tops y (a + 1) m) (tops y (a + 1) m)))) (sym is)
          (piece_fine a lt own, subst (λ k. IsOrderFrom y k (map part (tops y (a + 1) m))) (sym (piece_then a lt own)) more)
      go false is more =
          let lt : a < n = omega arith in
          subst (λ b. IsOrderFrom y (earlier y a) (map part (cond b (a ∷ tops y (a + 1) m) (tops y (a + 1) m)))) (sym is)
          (subst (λ k. IsOrderFrom y k (map part (tops y (a + 1) m))) (sym (skip_earlier a lt is)) more)

  -- the first node variable is the number of a component, before which nothing is bound
  pub first_own : 0 < n → number 0 ≡ 0
  first_own some = let b = (numbered catalog y stats sound).before 0 some in omega arith

  pub none_earlier : with_both (component y 0) (earlier y 0) ≡ component y 0
  none_earlier = λ i. record { nodes = λ v. nodes (ltb v n) (number v) i; rels = λ x. rels (slice_get y.rels x) i }
    where
      below : (m : ℕ) → (eqb m 0 || ltb m 0) ≡ eqb m 0
      below m = ap (λ b. eqb m 0 || b) (le-ltb m 0 (omega arith)) ∙ or_false (eqb m 0)

      nodes : (a : Bool) (m : ℕ) → ((a && eqb m 0) || (a && ltb m 0)) ≡ (a && eqb m 0)
      nodes true m = below m
      nodes false m = refl

      rels : (found : Option TypedRel) → (holds (λ r. eqb (number r.source) 0) found || holds (λ r. ltb (number r.source) 0) found) ≡ holds (λ r. eqb (number r.source) 0) found
      rels None = refl
      rels (Some r) = below (number r.source)

  pub after_first : 0 < n → bound_alone y (part 0) ≡ earlier y 1
  after_first some = (are 0 some (first_own some)).binds ∙ sym none_earlier ∙ next_earlier 0

  pub parts_order : 0 < n → IsOrder y (map part (numbers y))
  parts_order some = go n refl
    where
      go : (m : ℕ) → n ≡ m → IsOrder y (map part (tops y 0 m))
      go zero e = absurd (omega arith)
      go (suc m) e =
          let own = first_own some in
          subst (λ b. IsOrder y (map part (cond b (0 ∷ tops y 1 m) (tops y 1 m)))) (sym (eq-eqb (number 0) 0 own))
          (fine_by 0 none some own refl (λ x. none_of ((component y 0).rels x)), subst (λ k. IsOrderFrom y k (map part (tops y 1 m))) (sym (after_first some)) (order_from m 1 (omega arith)))
        where
          none_of : (a : Bool) → (a && false) ≡ false
          none_of true = refl
          none_of false = refl

  -- each piece begins with a node variable of the alternative
  pub parts_within : All (λ p. p.first < length y.nodes) (map part (numbers y))
  parts_within = go n 0 (omega arith)
    where
      go : (m a : ℕ) → a + m ≡ n → All (λ p. p.first < length y.nodes) (map part (tops y a m))
      go zero a e = All-nil (λ p. p.first < length y.nodes)
      go (suc m) a e = one (eqb (number a) a) refl (go m (a + 1) (omega arith))
        where
          one : (b : Bool) → eqb (number a) a ≡ b → All (λ p. p.first < length y.nodes) (map part (tops y (a + 1) m))
              → All (λ p. p.first < length y.nodes) (map part (cond (eqb (number a) a) (a ∷ tops y (a + 1) m) (tops y (a + 1) m)))
          one true is more =
              subst (λ b. All (λ p. p.first < length y.nodes) (map part (cond b (a ∷ tops y (a + 1) m) (tops y (a + 1) m)))) (sym is)
              (All-cons (λ p. p.first < length y.nodes) (part a) (map part (tops y (a + 1) m)) (are a (omega arith) (eqb-true (number a) a is)).within more)
          one false is more = subst (λ b. All (λ p. p.first < length y.nodes) (map part (cond b (a ∷ tops y (a + 1) m) (tops y (a + 1) m)))) (sym is) more

-- ---- pieces in a list and by numbers

module _ (y : Typed) where
  -- pieces by numbers, listed
  pub taken_by : (part : ℕ → Piece) → AreOf y part → TakeComponents y (map part (numbers y))
  taken_by part are = go (length y.nodes) 0 (omega arith)
    where
      go : (m a : ℕ) → a + m ≡ length y.nodes → AllZip (IsPieceOf y) (tops y a m) (map part (tops y a m))
      go zero a e = tt
      go (suc m) a e = one (eqb (at (components y) a) a) refl (go m (a + 1) (omega arith))
        where
          one : (b : Bool) → eqb (at (components y) a) a ≡ b → AllZip (IsPieceOf y) (tops y (a + 1) m) (map part (tops y (a + 1) m))
              → AllZip (IsPieceOf y) (cond (eqb (at (components y) a) a) (a ∷ tops y (a + 1) m) (tops y (a + 1) m)) (map part (cond (eqb (at (components y) a) a) (a ∷ tops y (a + 1) m) (tops y (a + 1) m)))
          one true is more =
              subst (λ b. AllZip (IsPieceOf y) (cond b (a ∷ tops y (a + 1) m) (tops y (a + 1) m)) (map part (cond b (a ∷ tops y (a + 1) m) (tops y (a + 1) m)))) (sym is)
              (are a (omega arith) (eqb-true (at (components y) a) a is), more)
          one false is more =
              subst (λ b. AllZip (IsPieceOf y) (cond b (a ∷ tops y (a + 1) m) (tops y (a + 1) m)) (map part (cond b (a ∷ tops y (a + 1) m) (tops y (a + 1) m)))) (sym is) more

  same_above : (f g : ℕ → Piece) (b m a : ℕ) → ((c : ℕ) → b ≤ c → f c ≡ g c) → b ≤ a → map f (tops y a m) ≡ map g (tops y a m)
  same_above f g b zero a h low = refl
  same_above f g b (suc m) a h low = go (eqb (at (components y) a) a) (same_above f g b m (a + 1) h (omega arith))
    where
      go : (c : Bool) → map f (tops y (a + 1) m) ≡ map g (tops y (a + 1) m) → map f (cond c (a ∷ tops y (a + 1) m) (tops y (a + 1) m)) ≡ map g (cond c (a ∷ tops y (a + 1) m) (tops y (a + 1) m))
      go true more = ap (λ p. p ∷ map f (tops y (a + 1) m)) (h a low) ∙ ap (λ ps. g a ∷ ps) more
      go false more = more

  -- listed pieces, by numbers
  pub record Parted (a m : ℕ) (ps : List Piece) : Type 0 where
    pub part : ℕ → Piece
    pub are : (c : ℕ) → a ≤ c → c < a + m → at (components y) c ≡ c → IsPieceOf y c (part c)
    pub all : ps ≡ map part (tops y a m)

  pub parted : (m a : ℕ) (ps : List Piece) → AllZip (IsPieceOf y) (tops y a m) ps → Parted a m ps
  parted zero a [] h = record { part = λ c. record { first = 0; turns = [] }; are = λ c low high own. absurd (omega arith); all = refl }
  parted zero a (p ∷ ps) h = absurd h
  parted (suc m) a ps h = go (eqb (at (components y) a) a) refl ps h (λ qs k. parted m (a + 1) qs k)
    where
      T : List ℕ
      T = tops y (a + 1) m

      go : (b : Bool) → eqb (at (components y) a) a ≡ b → (qs : List Piece) → AllZip (IsPieceOf y) (cond b (a ∷ T) T) qs
          → ((rs : List Piece) → AllZip (IsPieceOf y) T rs → Parted (a + 1) m rs) → Parted a (suc m) qs
      go true is [] k more = absurd k
      go true is (q ∷ qs) k more =
          let r = more qs k.1 in
          let new = λ (c : ℕ). cond (eqb c a) q (r.part c) in
          record {
            part = new;
            are = λ c low high own. each r c low high own (eqb c a) refl;
            all =
                ap (λ p. p ∷ qs) (sym (ap (λ b. cond b q (r.part a)) (eq-eqb a a refl)))
                ∙ ap (λ rs. new a ∷ rs) (r.all ∙ same_above r.part new (a + 1) m (a + 1) (above r) (omega arith))
                ∙ ap (λ b. map new (cond b (a ∷ T) T)) (sym is);
          }
        where
          each : (r : Parted (a + 1) m qs) (c : ℕ) → a ≤ c → c < a + suc m → at (components y) c ≡ c → (b : Bool) → eqb c a ≡ b → IsPieceOf y c (cond b q (r.part c))
          each r c low high own true e = subst (λ z. IsPieceOf y z q) (sym (eqb-true c a e)) k.0
          each r c low high own false e =
              let ne = eqb-false c a e in
              r.are c (omega (arith, ne, low)) (omega (arith, high)) own

          above : (r : Parted (a + 1) m qs) (c : ℕ) → a + 1 ≤ c → r.part c ≡ cond (eqb c a) q (r.part c)
          above r c low =
              let ne : c ≡ a → ⊥ = λ e. absurd (omega (arith, e, low)) in
              sym (ap (λ b. cond b q (r.part c)) (ne_eqb c a ne))
      go false is qs k more =
          let r = more qs k in
          record {
            part = r.part;
            are = λ c low high own.
                let ne : c ≡ a → ⊥ = λ e. true≢false (sym (eq-eqb (at (components y) a) a (ap (at (components y)) (sym e) ∙ own ∙ e)) ∙ is) in
                r.are c (omega (arith, ne, low)) (omega (arith, high)) own;
            all = r.all ∙ ap (λ b. map r.part (cond b (a ∷ T) T)) (sym is);
          }
