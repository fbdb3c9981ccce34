-- The rows of a build that a key finds are those whose matches agree with the row that asks.
use Rattle.std.proofs.Common.{◌≡◌, ◌∙◌, ℕ, zero, suc, ◌+◌, ◌<◌, Bool, true, false, not, ◌&&◌, ◌||◌, cond, nat_eq, Option, Some, None, List, [], ◌∷◌, map, filter, length, drop, get_or, refl, sym, ap, ap₂, subst, arith}
use Rattle.std.specs.List.{AllByRecursion, range_with_len}
use Rattle.std.proofs.Math.Bool.{and-false}
use Rattle.std.proofs.lemmas.Bool.{eq-eqb}
use Rattle.std.proofs.lemmas.List.{drop_all, drop_more}
use Rattle.gq_base.specs.declared.NodeId.{NodeId}
use Rattle.gq_expr.specs.Reading as reading
use Rattle.gq_join.specs.Kept.{Held, Kept, columns, has_key, matches, no_row, node_in, place_of, row_at}
use Rattle.gq_plan.proofs.ColumnBounds.{eqb_sym}
use Rattle.gq_plan.specs.Allowed.{at_same}
use Rattle.gq_plan.specs.Rows.{nodes_of_tables}
use Rattle.gq_plan.specs.Soundness.{has_number}
use Rattle.gq_outer.specs.Clauses.{agrees_at}
use Rattle.gq_optional.specs.declared.clause.Matches.{Matches}
use Rattle.gq_optional.specs.steps.Listed.{IsSized, IsWhole, agreeing, agrees_with, match_at, match_of}
use Rattle.gq_optional.specs.steps.Looked.{agrees_by, asked_rows, count_shared, has_rows, in_table, picked, places_of, same_rows, with_row}

-- ---- agreeing at variables that are known is agreeing where they are shared

pub agrees_shared : (known vs : List ℕ) (row : ℕ → Option NodeId) (ns : List NodeId) → agrees_at known vs row ns ≡ agrees_by (map (has_number known) vs) vs row ns
agrees_shared known [] row ns = refl
agrees_shared known (v ∷ vs) row [] = refl
agrees_shared known (v ∷ vs) row (n ∷ ns) = ap (λ b. (not (has_number known v) || at_same (row v) (Some n)) && b) (agrees_shared known vs row ns)

-- ---- what is asked for

asked_step : (o : Option NodeId) (t r : ℕ) (asked : Option (List ℕ)) (rs : List ℕ)
    → (at_same o (Some (record { table = t; row = r })) && has_rows asked rs) ≡ has_rows (with_row (in_table t o) asked) (r ∷ rs)
asked_step None t r asked rs = refl
asked_step (Some m) t r asked rs = go (nat_eq m.table t) asked
  where
    go : (b : Bool) (asked : Option (List ℕ)) → ((b && nat_eq m.row r) && has_rows asked rs) ≡ has_rows (with_row (cond b (Some m.row) None) asked) (r ∷ rs)
    go false asked = refl
    go true None = and-false (nat_eq m.row r)
    go true (Some ks) = ap (λ b. b && same_rows rs ks) (eqb_sym m.row r)

pub agrees_asked : (bs : List Bool) (vs ts rs : List ℕ) (row : ℕ → Option NodeId) → length bs ≡ length vs → length ts ≡ length vs → length rs ≡ length vs
    → agrees_by bs vs row (nodes_of_tables ts rs) ≡ has_rows (asked_rows bs vs ts row) (picked bs rs)
agrees_asked [] [] ts rs row b t r = refl
agrees_asked [] (v ∷ vs) ts rs row b t r = absurd (omega (arith, b))
agrees_asked (b ∷ bs) [] ts rs row e t r = absurd (omega (arith, e))
agrees_asked (b ∷ bs) (v ∷ vs) [] rs row e t r = absurd (omega (arith, t))
agrees_asked (b ∷ bs) (v ∷ vs) (k ∷ ts) [] row e t r = absurd (omega (arith, r))
agrees_asked (b ∷ bs) (v ∷ vs) (k ∷ ts) (q ∷ rs) row e t r = go b (agrees_asked bs vs ts rs row (omega (arith, e)) (omega (arith, t)) (omega (arith, r)))
  where
    go : (b : Bool) → agrees_by bs vs row (nodes_of_tables ts rs) ≡ has_rows (asked_rows bs vs ts row) (picked bs rs)
        → ((not b || at_same (row v) (Some (record { table = k; row = q }))) && agrees_by bs vs row (nodes_of_tables ts rs))
        ≡ has_rows (cond b (with_row (in_table k (row v)) (asked_rows bs vs ts row)) (asked_rows bs vs ts row)) (cond b (q ∷ picked bs rs) (picked bs rs))
    go true more = ap (λ a. at_same (row v) (Some (record { table = k; row = q })) && a) more ∙ asked_step (row v) k q (asked_rows bs vs ts row) (picked bs rs)
    go false more = more

-- ---- what is looked for

pub place_range : (a n j : ℕ) → j < n → place_of (range_with_len a n) (a + j) ≡ j
place_range a zero j low = absurd (omega (arith, low))
place_range a (suc n) zero low = rw (eq-eqb a (a + 0) (omega arith)) refl
place_range a (suc n) (suc j) low = go (nat_eq a (a + suc j)) (ne a (a + suc j) (omega arith)) (subst (λ p. place_of (range_with_len (a + 1) n) p ≡ j) (let e : (a + 1) + j ≡ a + suc j = omega arith in e) (place_range (a + 1) n j (omega (arith, low))))
  where
    ne : (x y : ℕ) → x < y → nat_eq x y ≡ false
    ne x y low = grind (arith, low)

    go : (b : Bool) → b ≡ false → place_of (range_with_len (a + 1) n) (a + suc j) ≡ j → cond b 0 (suc (place_of (range_with_len (a + 1) n) (a + suc j))) ≡ suc j
    go true e more = absurd (let x : ⊥ = cc in x)
    go false e more = ap suc more

module _ (h : Held) (i : ℕ) where
  keyed : (bs : List Bool) (at : ℕ) (rs key : List ℕ) → length rs ≡ length bs → ((j : ℕ) → j < length bs → node_in h (at + j) i ≡ get_or rs j 0)
      → has_key (map (node_in h) (places_of at bs)) key i ≡ same_rows (picked bs rs) key
  keyed [] at rs key e is = refl
  keyed (b ∷ bs) at [] key e is = absurd (omega (arith, e))
  keyed (b ∷ bs) at (r ∷ rs) key e is = go b key (λ ks. keyed bs (at + 1) rs ks (omega (arith, e)) later)
    where
      first : node_in h at i ≡ r
      first = ap (λ p. node_in h p i) (let e : at ≡ at + 0 = omega arith in e) ∙ is 0 (omega arith)

      later : (j : ℕ) → j < length bs → node_in h ((at + 1) + j) i ≡ get_or rs j 0
      later j low = ap (λ p. node_in h p i) (let e : (at + 1) + j ≡ at + suc j = omega arith in e) ∙ is (suc j) (omega (arith, low))

      go : (b : Bool) (key : List ℕ) → ((ks : List ℕ) → has_key (map (node_in h) (places_of (at + 1) bs)) ks i ≡ same_rows (picked bs rs) ks)
          → has_key (map (node_in h) (cond b (at ∷ places_of (at + 1) bs) (places_of (at + 1) bs))) key i ≡ same_rows (cond b (r ∷ picked bs rs) (picked bs rs)) key
      go false key more = more key
      go true [] more = refl
      go true (k ∷ key) more = ap₂ (λ x y. x && y) (ap (λ x. nat_eq x k) first) (more key)

-- ---- all rows

-- what passes of the items of a list, by their numbers
filter_numbers : {X Y : Type 0} (p : Y → Bool) (f : X → Y) (q : ℕ → Bool) (d : X) (all : List X) (k n : ℕ) → k + n ≡ length all
    → ((i : ℕ) → i < length all → p (f (get_or all i d)) ≡ q i)
    → filter p (map f (drop k all)) ≡ map (λ i. f (get_or all i d)) (filter q (range_with_len k n))
filter_numbers p f q d all k zero e same = ap (λ l. filter p (map f l)) (drop_all k all (omega (arith, e)))
filter_numbers {X} {Y} p f q d all k (suc n) e same =
    ap (λ l. filter p (map f l)) (drop_more all k d (omega (arith, e)))
    ∙ go (p (f (get_or all k d))) (q k) (same k (omega (arith, e))) (filter_numbers p f q d all (k + 1) n (omega (arith, e)) same)
  where
    go : (b c : Bool) → b ≡ c → filter p (map f (drop (k + 1) all)) ≡ map (λ i. f (get_or all i d)) (filter q (range_with_len (k + 1) n))
        → cond b (f (get_or all k d) ∷ filter p (map f (drop (k + 1) all))) (filter p (map f (drop (k + 1) all)))
        ≡ map (λ i. f (get_or all i d)) (cond c (k ∷ filter q (range_with_len (k + 1) n)) (filter q (range_with_len (k + 1) n)))
    go true true is more = ap (λ l. f (get_or all k d) ∷ l) more
    go false false is more = more
    go true false is more = absurd (let x : ⊥ = cc in x)
    go false true is more = absurd (let x : ⊥ = cc in x)

none_passes : (q : ℕ → Bool) (k n : ℕ) → ((i : ℕ) → i < k + n → q i ≡ false) → filter q (range_with_len k n) ≡ []
none_passes q k zero h = refl
none_passes q k (suc n) h = ap (λ b. cond b (k ∷ filter q (range_with_len (k + 1) n)) (filter q (range_with_len (k + 1) n))) (h k (omega arith)) ∙ none_passes q (k + 1) n (λ i low. h i (omega (arith, low)))

pub sized_at : (P : Kept → Type 0) (ks : List Kept) (i : ℕ) → AllByRecursion P ks → i < length ks → P (get_or ks i no_row)
sized_at P [] i all low = absurd (omega (arith, low))
sized_at P (k ∷ ks) zero all low = all.0
sized_at P (k ∷ ks) (suc i) all low = sized_at P ks i all.1 (omega (arith, low))

module _ (shared : List Bool) (nodes : List ℕ) (m : Matches) (whole : IsWhole shared nodes m) (row : reading.Assignment) where
  abbrev pub asks : Option (List ℕ)
  asks = asked_rows shared nodes m.typed.now.nodes row.nodes

  sized : (i : ℕ) → i < length m.build.rows → length (row_at m.build i).nodes ≡ length nodes
  sized i low = (sized_at (IsSized (length nodes) (length m.typed.now.rels)) m.build.rows i whole.sized low).0

  by_asked : (i : ℕ) → i < length m.build.rows → agrees_with shared nodes row (match_at m i) ≡ has_rows asks (picked shared (row_at m.build i).nodes)
  by_asked i low = agrees_asked shared nodes m.typed.now.nodes (row_at m.build i).nodes row.nodes whole.wide whole.tables (sized i low)

  node_here : (i : ℕ) → i < length m.build.rows → (j : ℕ) → j < length shared → node_in m.build (0 + j) i ≡ get_or (row_at m.build i).nodes j 0
  node_here i low j in_range =
      ap (λ p. get_or (row_at m.build i).nodes p 0)
      (ap (λ l. place_of l (0 + j)) whole.nodes ∙ place_range 0 (length nodes) j (omega (arith, in_range, whole.wide)))

  by_key : (key : List ℕ) (i : ℕ) → i < length m.build.rows → has_key (columns m.build) key i ≡ same_rows (picked shared (row_at m.build i).nodes) key
  by_key key i low =
      ap (λ l. has_key (map (node_in m.build) l) key i) whole.keys
      ∙ keyed m.build i shared 0 (row_at m.build i).nodes key (sized i low ∙ sym whole.wide) (node_here i low)

  pub looked : (key : List ℕ) → asks ≡ Some key → map (match_at m) (matches m.build key) ≡ agreeing shared nodes row m
  looked key is =
      sym (filter_numbers (agrees_with shared nodes row) (match_of m.typed.now) (has_key (columns m.build) key) no_row m.build.rows 0 (length m.build.rows) (omega arith)
      (λ i low. by_asked i low ∙ ap (λ o. has_rows o (picked shared (row_at m.build i).nodes)) is ∙ sym (by_key key i low)))

  pub looked_none : asks ≡ None → agreeing shared nodes row m ≡ []
  looked_none is =
      filter_numbers (agrees_with shared nodes row) (match_of m.typed.now) (λ i. false) no_row m.build.rows 0 (length m.build.rows) (omega arith)
      (λ i low. by_asked i low ∙ ap (λ o. has_rows o (picked shared (row_at m.build i).nodes)) is)
      ∙ ap (map (match_at m)) (none_passes (λ i. false) 0 (length m.build.rows) (λ i low. refl))

-- a key has as many rows as variables are shared
pub length_places : (at : ℕ) (bs : List Bool) → length (places_of at bs) ≡ count_shared bs
length_places at [] = refl
length_places at (true ∷ bs) = ap suc (length_places (at + 1) bs)
length_places at (false ∷ bs) = length_places (at + 1) bs
