-- A mark that is set.
use Rattle.std.proofs.Common.{◌≡◌, ◌≢◌, ℕ, zero, suc, ◌+◌, ◌-◌, ◌<◌, ◌≤◌, nat_eq, Bool, true, false, not, ◌&&◌, Some, List, [], ◌∷◌, ◌++◌, length, get_or, set, refl, sym, ap, ap₂, ◌∙◌, subst, arith, inl, inr, ◌⊎◌}
use Rattle.std.specs.Prelude.{None, replicate, slice_get}
use Rattle.std.proofs.lemmas.Bool.{cases_lt, eq-eqb}
use Rattle.std.proofs.lemmas.Bool.Decides.{nat_tests}
use Rattle.std.proofs.lemmas.List.{get_or_append_left, get_or_past, get_or-append_right, get_or-replicate, get_or-set_same, get_or-set_other, length-append, length-replicate}
use Rattle.std.proofs.lemmas.Option.{get_or_from_slice_get, slice_get-get_or, slice_get_within}
use Rattle.gq_base.specs.declared.NodeId.{NodeId}
use Rattle.gq_marks.specs.Marking.{IsReached, IsSpread, Marking, is_marked, mark_at}
use Rattle.gq_marks.specs.steps.{AreAhead, IsAhead, has_place, with_mark}

abbrev same : NodeId → NodeId → Bool
same m n = nat_eq m.table n.table && nat_eq m.row n.row

module _ (sheets : List (List ℕ)) (n : NodeId) (mark : ℕ) (place : has_place sheets n ≡ true) where
  abbrev sheet : List ℕ
  sheet = get_or sheets n.table []

  row_low : n.row < length (get_or sheets n.table [])
  row_low = grind (arith, nat_tests, place)

  table_low : n.table < length sheets
  table_low = go (cases_lt n.table (length sheets))
    where
      go : (n.table < length sheets) ⊎ (length sheets ≤ n.table) → n.table < length sheets
      go (inl low) = low
      go (inr high) = absurd (let none : get_or sheets n.table [] ≡ [] = get_or_past sheets n.table [] high in omega (arith, row_low, ap length none))

  pub mark_here : mark_at (with_mark sheets n mark) n ≡ mark
  mark_here =
      ap (λ l. get_or l n.row 255) (get_or-set_same sheets n.table (set sheet n.row mark) [] table_low)
      ∙ get_or-set_same sheet n.row mark 255 row_low

  pub mark_there : (m : NodeId) → same m n ≡ false → mark_at (with_mark sheets n mark) m ≡ mark_at sheets m
  mark_there m other = go (nat_eq m.table n.table) refl
    where
      go : (b : Bool) → nat_eq m.table n.table ≡ b → mark_at (with_mark sheets n mark) m ≡ mark_at sheets m
      go false apart =
          let no : m.table ≢ n.table = grind (arith, nat_tests, apart) in
          ap (λ l. get_or l m.row 255) (get_or-set_other sheets n.table m.table (set sheet n.row mark) [] no)
      go true together =
          let table : m.table ≡ n.table = grind (arith, nat_tests, together) in
          let row : nat_eq m.row n.row ≡ false = ap (λ b. b && nat_eq m.row n.row) (sym together) ∙ other in
          let no : m.row ≢ n.row = grind (arith, nat_tests, row) in
          ap (λ l. get_or l m.row 255) (ap (λ t. get_or (set sheets n.table (set sheet n.row mark)) t []) table ∙ get_or-set_same sheets n.table (set sheet n.row mark) [] table_low)
          ∙ get_or-set_other sheet n.row m.row mark 255 no
          ∙ ap (λ t. get_or (get_or sheets t []) m.row 255) (sym table)

-- ---- marks that are read

pub mark_found : (sheets : List (List ℕ)) (n : NodeId) (sheet : List ℕ) (mark : ℕ) → sheet ≡ get_or sheets n.table [] → slice_get sheet n.row ≡ Some mark → mark ≡ mark_at sheets n
mark_found sheets n sheet mark at is = sym (ap (λ l. get_or l n.row 255) (sym at) ∙ get_or_from_slice_get sheet n.row mark 255 is)

slice_get_none : {X : Type 0} (xs : List X) (i : ℕ) → slice_get xs i ≡ None → length xs ≤ i
slice_get_none [] i e = omega arith
slice_get_none (x ∷ xs) zero e = absurd (cc e)
slice_get_none (x ∷ xs) (suc i) e = let more = slice_get_none xs i e in omega (arith, more)

pub mark_lost : (sheets : List (List ℕ)) (n : NodeId) (sheet : List ℕ) → sheet ≡ get_or sheets n.table [] → slice_get sheet n.row ≡ None → 255 ≡ mark_at sheets n
mark_lost sheets n sheet at none = sym (ap (λ l. get_or l n.row 255) (sym at) ∙ get_or_past sheet n.row 255 (slice_get_none sheet n.row none))

abbrev no_mark : ℕ
no_mark = 255

-- one more sheet that has no marks
pub no_mark_more : (sheets : List (List ℕ)) (nodes : ℕ) → ((n : NodeId) → mark_at sheets n ≡ 255) → (n : NodeId) → mark_at (sheets ++ replicate nodes 255 ∷ []) n ≡ 255
no_mark_more sheets nodes none n = go (cases_lt n.table (length sheets))
  where
    blank : (n.row < nodes) ⊎ (nodes ≤ n.row) → get_or (replicate nodes no_mark) n.row no_mark ≡ no_mark
    blank (inl low) = get_or-replicate nodes n.row no_mark no_mark low
    blank (inr high) = get_or_past (replicate nodes no_mark) n.row no_mark (omega (arith, high, length-replicate nodes no_mark))

    last : (k : ℕ) → get_or (get_or (replicate nodes no_mark ∷ []) k []) n.row no_mark ≡ no_mark
    last zero = blank (cases_lt n.row nodes)
    last (suc k) = refl

    go : (n.table < length sheets) ⊎ (length sheets ≤ n.table) → mark_at (sheets ++ replicate nodes 255 ∷ []) n ≡ 255
    go (inl low) = ap (λ l. get_or l n.row 255) (get_or_append_left sheets (replicate nodes 255 ∷ []) [] n.table low) ∙ none n
    go (inr high) =
        ap (λ l. get_or l n.row 255) (get_or-append_right sheets (replicate nodes 255 ∷ []) (length sheets) n.table [] refl high)
        ∙ last (n.table - length sheets)

-- ---- all marks are taken away

same_self : (m : NodeId) → same m m ≡ true
same_self m = ap₂ (λ a b. a && b) (eq-eqb m.table m.table refl) (eq-eqb m.row m.row refl)

marked_not : (mark : ℕ) → mark ≡ 255 → not (nat_eq mark 255) ≡ true → {A : Type 0} → A
marked_not mark is e = absurd (let no : not (nat_eq 255 255) ≡ true = ap (λ m. not (nat_eq m 255)) (sym is) ∙ e in cc no)

same_is : (m n : NodeId) → same m n ≡ true → m ≡ n
same_is m n e = go (nat_eq m.table n.table) (nat_eq m.row n.row) refl refl e
  where
    go : (a b : Bool) → nat_eq m.table n.table ≡ a → nat_eq m.row n.row ≡ b → (a && b) ≡ true → m ≡ n
    go true true t r both =
        let table : m.table ≡ n.table = grind (arith, nat_tests, t) in
        let row : m.row ≡ n.row = grind (arith, nat_tests, r) in
        λ i. record { table = table i; row = row i }
    go true false t r both = absurd (cc both)
    go false b t r both = absurd (cc both)

module _ (sheets : List (List ℕ)) (nodes : List NodeId) (from : ℕ) (ahead : AreAhead sheets nodes from) (node : NodeId) (here : slice_get nodes from ≡ Some node) where
  -- another one is ahead of the next place
  next_ahead : (n : NodeId) → IsAhead nodes from n → same n node ≡ false → IsAhead nodes (from + 1) n
  next_ahead n is other = record { reached = is.reached; low = go (cases_lt from is.reached.place) }
    where
      go : (from < is.reached.place) ⊎ (is.reached.place ≤ from) → from + 1 ≤ is.reached.place
      go (inl less) = omega (arith, less)
      go (inr more) = absurd (
          let at : is.reached.place ≡ from = omega (arith, more, is.low) in
          let both : Some n ≡ Some node = sym is.reached.is ∙ ap (slice_get nodes) at ∙ here in
          let one : n ≡ node = cc both in
          let self : same n node ≡ true = ap (λ m. same n m) (sym one) ∙ same_self n in
          let lost : true ≡ false = sym self ∙ other in cc lost)

  pub ahead_set : has_place sheets node ≡ true → AreAhead (with_mark sheets node 255) nodes (from + 1)
  ahead_set place n marked = go (same n node) refl
    where
      go : (b : Bool) → same n node ≡ b → IsAhead nodes (from + 1) n
      go true one = marked_not (mark_at (with_mark sheets node 255) n) (ap (mark_at (with_mark sheets node 255)) (same_is n node one) ∙ mark_here sheets node 255 place) marked
      go false other = next_ahead n (ahead n (ap (λ m. not (nat_eq m 255)) (sym (mark_there sheets node 255 place n other)) ∙ marked)) other

  pub ahead_past : has_place sheets node ≡ false → AreAhead sheets nodes (from + 1)
  ahead_past none n marked = go (same n node) refl
    where
      go : (b : Bool) → same n node ≡ b → IsAhead nodes (from + 1) n
      go true one =
          let high : length (get_or sheets node.table []) ≤ node.row = grind (arith, nat_tests, none) in
          marked_not (mark_at sheets n) (ap (mark_at sheets) (same_is n node one) ∙ get_or_past (get_or sheets node.table []) node.row 255 high) marked
      go false other = next_ahead n (ahead n marked) other

pub ahead_none : (sheets : List (List ℕ)) (nodes : List NodeId) (from : ℕ) → AreAhead sheets nodes from → length nodes ≤ from → (n : NodeId) → mark_at sheets n ≡ 255
ahead_none sheets nodes from ahead all n = go (nat_eq (mark_at sheets n) 255) refl
  where
    go : (b : Bool) → nat_eq (mark_at sheets n) 255 ≡ b → mark_at sheets n ≡ 255
    go true is = grind (arith, nat_tests, is)
    go false is =
        let a = ahead n (ap not is) in
        absurd (omega (arith, all, a.low, slice_get_within nodes a.reached.place n a.reached.is))

-- ---- one more mark

module _ (m : Marking) (node : NodeId) (mark : ℕ) (few : mark < 255) (none : mark_at m.sheets node ≡ 255) (place : has_place m.sheets node ≡ true) where
  abbrev new : Marking
  new = record { sheets = with_mark m.sheets node mark; rest = m.rest; reached = m.reached ++ node ∷ [] }

  another : (n : NodeId) → is_marked m n ≡ true → same n node ≡ false
  another n marked = go (same n node) refl
    where
      go : (b : Bool) → same n node ≡ b → b ≡ false
      go false e = refl
      go true e = marked_not (mark_at m.sheets n) (ap (mark_at m.sheets) (same_is n node e) ∙ none) marked

  pub put_spread : IsSpread mark m (record { sheets = with_mark m.sheets node mark; rest = m.rest; reached = m.reached ++ node ∷ [] })
  put_spread = record {
    rest = refl;
    more = node ∷ [];
    reached = refl;
    each = (mark_here m.sheets node mark place, tt);
    stays = λ n marked. mark_there m.sheets node mark place n (another n marked);
    comes = λ n marked was. go n marked was (same n node) refl;
  }
    where
      go : (n : NodeId) → is_marked new n ≡ true → is_marked m n ≡ false → (b : Bool) → same n node ≡ b → mark_at (with_mark m.sheets node mark) n ≡ mark
      go n marked was true one = ap (mark_at (with_mark m.sheets node mark)) (same_is n node one) ∙ mark_here m.sheets node mark place
      go n marked was false other =
          let lost : true ≡ false = sym marked ∙ ap (λ k. not (nat_eq k 255)) (mark_there m.sheets node mark place n other) ∙ was in
          absurd (cc lost)

  pub put_marked : is_marked (record { sheets = with_mark m.sheets node mark; rest = m.rest; reached = m.reached ++ node ∷ [] }) node ≡ true
  put_marked = ap (λ k. not (nat_eq k 255)) (mark_here m.sheets node mark place) ∙ grind (arith, nat_tests, few)

  reached_more : (nodes : List NodeId) (n x : NodeId) → IsReached nodes n → IsReached (nodes ++ x ∷ []) n
  reached_more nodes n x is =
      let low = slice_get_within nodes is.place n is.is in
      record {
        place = is.place;
        is = slice_get-get_or (nodes ++ x ∷ []) is.place n (omega (arith, low, length-append nodes (x ∷ [])))
            ∙ ap Some (get_or_append_left nodes (x ∷ []) n is.place low ∙ get_or_from_slice_get nodes is.place n n is.is);
      }

  reached_last : (nodes : List NodeId) (x : NodeId) → IsReached (nodes ++ x ∷ []) x
  reached_last nodes x = record {
    place = length nodes;
    is = slice_get-get_or (nodes ++ x ∷ []) (length nodes) x (omega (arith, length-append nodes (x ∷ [])))
        ∙ ap Some (get_or-append_right nodes (x ∷ []) (length nodes) (length nodes) x refl (omega arith) ∙ first (length nodes - length nodes) (omega arith));
  }
    where
      first : (k : ℕ) → k ≡ 0 → get_or (x ∷ []) k x ≡ x
      first zero e = refl
      first (suc k) e = refl

  pub put_known : ((n : NodeId) → is_marked m n ≡ true → IsReached m.reached n)
      → (n : NodeId) → is_marked (record { sheets = with_mark m.sheets node mark; rest = m.rest; reached = m.reached ++ node ∷ [] }) n ≡ true → IsReached (m.reached ++ node ∷ []) n
  put_known known n marked = go (same n node) refl
    where
      go : (b : Bool) → same n node ≡ b → IsReached (m.reached ++ node ∷ []) n
      go true one = subst (λ k. IsReached (m.reached ++ node ∷ []) k) (sym (same_is n node one)) (reached_last m.reached node)
      go false other = reached_more m.reached n node (known n (ap (λ k. not (nat_eq k 255)) (sym (mark_there m.sheets node mark place n other)) ∙ marked))
