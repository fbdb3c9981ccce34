-- What is left of the relationships at a node, one step on.
use Rattle.std.specs.Prelude.{All, ◌^◌}
use Rattle.std.proofs.Common.{◌≡◌, ℕ, zero, suc, ◌+◌, ◌-◌, ◌<◌, ◌≤◌, nat_eq, Bool, true, false, ◌&&◌, cond, Some, None, List, [], ◌∷◌, ◌++◌, map, flat_map, filter, length, drop, slice_get, refl, sym, ap, ap₂, ◌∙◌, subst, arith, inl, inr, ◌⊎◌}
use Rattle.std.specs.List.{range_with_len}
use Rattle.std.proofs.lemmas.Bool.{cases_lt}
use Rattle.std.proofs.lemmas.Bool.Decides.{nat_tests}
use Rattle.std.proofs.lemmas.List.{append_assoc, drop_more, drop_all}
use Rattle.std.proofs.lemmas.List.Elements.{filter-append}
use Rattle.std.proofs.lemmas.Option.{slice_get_past, slice_get_within, get_or_from_slice_get}
use Rattle.std.specs.Cmp.Lexicographic.{pointwise}
use Rattle.gq_base.specs.Directions.{opposite}
use Rattle.gq_base.specs.Plain.{Graph, rels_at, rows_at, all_of}
use Rattle.gq_base.specs.Valid.{row_count}
use Rattle.gq_base.specs.declared.NodeId.{NodeId}
use Rattle.gq_base.specs.declared.RelId.{RelId}
use Rattle.gq_base.specs.declared.RelTable.{RelTable}
use Rattle.gq_base.specs.declared.direction.Direction.{Direction}
use Rattle.gq_base.specs.declared.direction.Direction.TheVariants.{Forward, Backward}
use Rattle.gq_plan.specs.Allowed.{at_same}
use Rattle.gq_plan.specs.Assignments.{all_rels, is_node, rels_of}
use Rattle.gq_plan.specs.Meaning.{far, holds, near}
use Rattle.gq_store.specs.Neighbours.{near_rows, neighbours, numbers, end_rows}
use Rattle.gq_hops.specs.Levels.{is_met, met_all}
use Rattle.gq_hops.specs.steps.Hops.{IsLevelIn, IsNearIn, far_table, followed, left_at, left_from, met_in, near_in, near_table, tables_in, tables_of}
use Rattle.gq_hops.specs.declared.follow.Followed.{Followed}
use Rattle.gq_hops.specs.declared.follow.Frame.{Frame}
use Rattle.gq_hops.specs.declared.hop.Near.{Near}
use Rattle.gq_hops.specs.declared.hop.Near.TheVariants.{One}
use Rattle.gq_hops.specs.steps.Nears.{rows_in}
use Rattle.gq_hops.proofs.Following.{Edge, IsEdge, as_many, get_some, rel, hop_leads, hop_next, hop_none, met_at, none_met}

-- ---- lists

filter_on : {X : Type 0} (f : ℕ → X) (p q : X → Bool) → ((n : ℕ) → p (f n) ≡ q (f n)) → (ns : List ℕ) → filter p (map f ns) ≡ filter q (map f ns)
filter_on f p q same [] = refl
filter_on f p q same (n ∷ ns) = ap₂ (λ b l. cond b (f n ∷ l) l) (same n) (filter_on f p q same ns)

filter_none : {X : Type 0} (xs : List X) → filter (λ x. false) xs ≡ []
filter_none [] = refl
filter_none (x ∷ xs) = filter_none xs

drop_map : {X Y : Type 0} (f : X → Y) (i : ℕ) (xs : List X) → drop i (map f xs) ≡ map f (drop i xs)
drop_map f zero xs = refl
drop_map f (suc i) [] = refl
drop_map f (suc i) (x ∷ xs) = drop_map f i xs

drop_none : {X : Type 0} (i : ℕ) (xs : List X) → xs ≡ [] → drop i xs ≡ []
drop_none zero xs e = e
drop_none (suc i) [] e = refl
drop_none (suc i) (x ∷ xs) e = absurd (cc e)

filter_flat : {A B : Type 0} (p : B → Bool) (f : A → List B) (xs : List A) → filter p (flat_map f xs) ≡ flat_map (λ x. filter p (f x)) xs
filter_flat p f [] = refl
filter_flat p f (x ∷ xs) = filter-append p (f x) (flat_map f xs) ∙ ap (λ l. filter p (f x) ++ l) (filter_flat p f xs)

pub slice_get_none : {X : Type 0} (xs : List X) (i : ℕ) → slice_get xs i ≡ None → length xs ≤ i
slice_get_none [] i e = omega arith
slice_get_none (x ∷ xs) zero e = absurd (cc e)
slice_get_none (x ∷ xs) (suc i) e = let more = slice_get_none xs i e in omega (arith, more)

all_at : (P : ℕ → Type 0) (xs : List ℕ) (i x : ℕ) → All P xs → slice_get xs i ≡ Some x → P x
all_at P xs i x all e = subst P (get_or_from_slice_get xs i x x e) (all i x (slice_get_within xs i x e))

-- ---- those of one table

module _ (g : Graph) (kind : List ℕ) (way : Direction) (at : NodeId) where
  typed_rels : (t : ℕ) (k : RelTable) (b : Bool) → slice_get g.catalog.rels t ≡ Some k → pointwise nat_eq k.name kind ≡ b
      → met_in g kind way (Some at) t ≡ filter (λ r. b && at_same (Some at) (near g way r)) (rels_of g t)
  unfolding rels_of
  typed_rels t k b is named =
      filter_on (rel t) (is_met g kind way (Some at)) (λ r. b && at_same (Some at) (near g way r)) (λ n. ap (λ c. c && at_same (Some at) (near g way (rel t n))) (ap (holds (λ table. pointwise nat_eq table.name kind)) is ∙ named)) (range_with_len 0 (length (rels_at g t)))

  -- a table that is followed
  followed_rels : (t : ℕ) (k : RelTable) → slice_get g.catalog.rels t ≡ Some k → pointwise nat_eq k.name kind ≡ true → at.table ≡ near_table way k
      → met_in g kind way (Some at) t ≡ map (rel t) (numbers g t way at.row)
  followed_rels t k is named lies = typed_rels t k true is named ∙ met_at g t k is way at lies

  -- a table that is not
  unfollowed_rels : (t : ℕ) (k : RelTable) → slice_get g.catalog.rels t ≡ Some k → (nat_eq (near_table way k) at.table && pointwise nat_eq k.name kind) ≡ false
      → met_in g kind way (Some at) t ≡ []
  unfollowed_rels t k is apart = go (pointwise nat_eq k.name kind) refl
    where
      go : (b : Bool) → pointwise nat_eq k.name kind ≡ b → met_in g kind way (Some at) t ≡ []
      go false named = typed_rels t k false is named ∙ filter_none (rels_of g t)
      go true named = typed_rels t k true is named ∙ none_met g t k is way at (and_left (nat_eq (near_table way k) at.table) (ap (λ b. nat_eq (near_table way k) at.table && b) (sym named) ∙ apart))
        where
          and_left : (b : Bool) → (b && true) ≡ false → b ≡ false
          and_left true e = e
          and_left false e = refl

  -- those of the tables from one on
  abbrev met_from : ℕ → List RelId
  met_from t = flat_map (met_in g kind way (Some at)) (range_with_len t (length g.rels - t))

  -- there are no relationships in tables from the last one on
  no_rels : (t : ℕ) → length g.rels ≤ t → met_in g kind way (Some at) t ≡ []
  unfolding rels_of
  no_rels t high = ap (λ rs. filter (is_met g kind way (Some at)) (map (rel t) (range_with_len 0 (length (all_of rs))))) (slice_get_past g.rels t high)

  next_table : (t : ℕ) → met_from t ≡ met_in g kind way (Some at) t ++ met_from (t + 1)
  next_table t = go (cases_lt t (length g.rels))
    where
      go : (t < length g.rels) ⊎ (length g.rels ≤ t) → met_from t ≡ met_in g kind way (Some at) t ++ met_from (t + 1)
      go (inr high) =
          let none : length g.rels - t ≡ 0 = omega arith in
          let less : length g.rels - (t + 1) ≡ 0 = omega arith in
          rw (none, less, no_rels t high) refl
      go (inl low) =
          let more : length g.rels - t ≡ suc (length g.rels - (t + 1)) = omega arith in
          rw more refl

  -- a table that the catalogue lacks has no relationships of a type
  untyped_rels : (t : ℕ) → slice_get g.catalog.rels t ≡ None → met_in g kind way (Some at) t ≡ []
  unfolding rels_of
  untyped_rels t is =
      filter_on (rel t) (is_met g kind way (Some at)) (λ r. false) (λ n. ap (λ c. c && at_same (Some at) (near g way (rel t n))) (ap (holds (λ table. pointwise nat_eq table.name kind)) is)) (range_with_len 0 (length (rels_at g t)))
      ∙ filter_none (map (rel t) (range_with_len 0 (length (rels_at g t))))

  none_from : (n t : ℕ) → ((i : ℕ) → slice_get g.catalog.rels (t + i) ≡ None) → flat_map (met_in g kind way (Some at)) (range_with_len t n) ≡ []
  none_from zero t none = refl
  none_from (suc n) t none =
      let here : t + 0 ≡ t = omega arith in
      ap₂ (λ l m. l ++ m) (untyped_rels t (ap (slice_get g.catalog.rels) (sym here) ∙ none 0))
      (none_from n (t + 1) (λ i. let at_i : t + 1 + i ≡ t + suc i = omega arith in ap (slice_get g.catalog.rels) at_i ∙ none (suc i)))

  abbrev met_by : List Followed → List RelId
  met_by es = flat_map (λ q. met_in g kind way (Some at) q.table) es

  -- only tables of the type have any
  met_tables : (ks : List RelTable) (t : ℕ) → ((i : ℕ) → slice_get g.catalog.rels (t + i) ≡ slice_get ks i) → met_from t ≡ met_by (tables_of kind way t ks)
  met_tables [] t is = none_from (length g.rels - t) t is
  met_tables (k ∷ ks) t is = next_table t ∙ ap (λ l. met_in g kind way (Some at) t ++ l) (met_tables ks (t + 1) (λ i. let at_i : t + 1 + i ≡ t + suc i = omega arith in ap (slice_get g.catalog.rels) at_i ∙ is (suc i))) ∙ go (pointwise nat_eq k.name kind) refl
    where
      here : slice_get g.catalog.rels t ≡ Some k
      here = let same : t ≡ t + 0 = omega arith in ap (slice_get g.catalog.rels) same ∙ is 0

      go : (b : Bool) → pointwise nat_eq k.name kind ≡ b → met_in g kind way (Some at) t ++ met_by (tables_of kind way (t + 1) ks) ≡ met_by (tables_of kind way t (k ∷ ks))
      go true named = rw named refl
      go false named = rw named (ap (λ l. l ++ met_by (tables_of kind way (t + 1) ks)) (typed_rels t k false here named ∙ filter_none (rels_of g t)))

  first_from : (es : List Followed) → left_from g kind way at 0 es ≡ met_by es
  first_from [] = refl
  first_from (e ∷ es) = refl

  pub all_met : met_all g kind way (Some at) ≡ left_at g kind way at 0 0
  unfolding all_rels left_at
  all_met =
      let many : length g.rels - 0 ≡ length g.rels = omega arith in
      filter_flat (is_met g kind way (Some at)) (rels_of g) (range_with_len 0 (length g.rels))
      ∙ ap (λ n. flat_map (met_in g kind way (Some at)) (range_with_len 0 n)) (sym many)
      ∙ met_tables g.catalog.rels 0 (λ i. let same : 0 + i ≡ i = omega arith in ap (slice_get g.catalog.rels) same)
      ∙ sym (first_from (tables_in g kind way))

-- ---- a table of the type

two : (a b : Bool) → (a && b) ≡ true → (a ≡ true) × (b ≡ true)
two true b e = (refl, e)
two false b e = absurd (cc e)

pub record IsEntry (g : Graph) (kind : List ℕ) (way : Direction) (e : Followed) : Type 0 where
  pub of : RelTable
  pub table_is : slice_get g.catalog.rels e.table ≡ Some of
  pub named : pointwise nat_eq of.name kind ≡ true
  pub near_is : e.near ≡ near_table way of
  pub far_is : e.far ≡ far_table way of

module _ (g : Graph) (kind : List ℕ) (way : Direction) where
  entry_of : (ks : List RelTable) (t : ℕ) → ((i : ℕ) → slice_get g.catalog.rels (t + i) ≡ slice_get ks i) → (i : ℕ) (e : Followed) → slice_get (tables_of kind way t ks) i ≡ Some e → IsEntry g kind way e
  entry_of [] t is i e found = absurd (cc found)
  entry_of (k ∷ ks) t is i e found = go (pointwise nat_eq k.name kind) refl i found (λ j. entry_of ks (t + 1) (λ i. let at_i : t + 1 + i ≡ t + suc i = omega arith in ap (slice_get g.catalog.rels) at_i ∙ is (suc i)) j e)
    where
      here : slice_get g.catalog.rels t ≡ Some k
      here = let same : t ≡ t + 0 = omega arith in ap (slice_get g.catalog.rels) same ∙ is 0

      go : (b : Bool) → pointwise nat_eq k.name kind ≡ b → (i : ℕ) → slice_get (cond b (followed way t k ∷ []) [] ++ tables_of kind way (t + 1) ks) i ≡ Some e
          → ((j : ℕ) → slice_get (tables_of kind way (t + 1) ks) j ≡ Some e → IsEntry g kind way e) → IsEntry g kind way e
      go false named i found more = more i found
      go true named zero found more =
          let same : followed way t k ≡ e = cc in
          subst (IsEntry g kind way) same (record { of = k; table_is = here; named = named; near_is = refl; far_is = refl })
      go true named (suc i) found more = more i found

  pub entry : (i : ℕ) (e : Followed) → slice_get (tables_in g kind way) i ≡ Some e → IsEntry g kind way e
  entry = entry_of g.catalog.rels 0 (λ i. let same : 0 + i ≡ i = omega arith in ap (slice_get g.catalog.rels) same)

  near_rows_are : (to : Direction) (t : ℕ) (k : RelTable) → slice_get g.catalog.rels t ≡ Some k → near_rows g t to ≡ row_count g.nodes (near_table to k)
  near_rows_are Forward t k is = ap (end_rows g.nodes Forward) is
  near_rows_are Backward t k is = ap (end_rows g.nodes Backward) is

  far_rows_are : (to : Direction) (t : ℕ) (k : RelTable) → slice_get g.catalog.rels t ≡ Some k → near_rows g t (opposite to) ≡ row_count g.nodes (far_table to k)
  far_rows_are Forward t k is = ap (end_rows g.nodes Backward) is
  far_rows_are Backward t k is = ap (end_rows g.nodes Forward) is

  module _ (at : NodeId) (table : ℕ) (e : Followed) (found : slice_get (tables_in g kind way) table ≡ Some e) where
    is : IsEntry g kind way e
    is = entry table e found

    pub within : e.table < length g.catalog.rels
    within = slice_get_within g.catalog.rels e.table is.of is.table_is

    opened : drop table (tables_in g kind way) ≡ e ∷ drop (table + 1) (tables_in g kind way)
    opened =
        drop_more (tables_in g kind way) table e (slice_get_within (tables_in g kind way) table e found)
        ∙ ap (λ q. q ∷ drop (table + 1) (tables_in g kind way)) (get_or_from_slice_get (tables_in g kind way) table e e found)

    left_here : (place : ℕ) → left_at g kind way at table place ≡ drop place (met_in g kind way (Some at) e.table) ++ met_by g kind way at (drop (table + 1) (tables_in g kind way))
    unfolding left_at
    left_here place = ap (left_from g kind way at place) opened

    left_next : left_at g kind way at (table + 1) 0 ≡ met_by g kind way at (drop (table + 1) (tables_in g kind way))
    unfolding left_at
    left_next = first_from g kind way at (drop (table + 1) (tables_in g kind way))

    left_past : (place : ℕ) → drop place (met_in g kind way (Some at) e.table) ≡ [] → left_at g kind way at table place ≡ left_at g kind way at (table + 1) 0
    left_past place none = left_here place ∙ ap (λ l. l ++ met_by g kind way at (drop (table + 1) (tables_in g kind way))) none ∙ sym left_next

    pub number_some : (place : ℕ) → place < length (neighbours g e.table way at.row) → (number : ℕ) × (slice_get (numbers g e.table way at.row) place ≡ Some number)
    number_some place low = get_some (numbers g e.table way at.row) place (omega (arith, low, as_many g e.table is.of is.table_is way at.row))

    module _ (met_here : nat_eq e.near at.table ≡ true) where
      lies : at.table ≡ near_table way is.of
      lies = (let same : nat_eq e.near at.table ≡ true = met_here in let eq : at.table ≡ e.near = grind (arith, nat_tests, same) in eq) ∙ is.near_is

      met : met_in g kind way (Some at) e.table ≡ map (rel e.table) (numbers g e.table way at.row)
      met = followed_rels g kind way at e.table is.of is.table_is is.named lies

      pub row_within : is_node g at ≡ true → at.row < near_rows g e.table way
      row_within node =
          let low : at.row < length (rows_at g at.table) = grind (arith, nat_tests, node) in
          subst (λ n. at.row < n) (ap (row_count g.nodes) lies ∙ sym (near_rows_are way e.table is.of is.table_is)) low

      pub followed_past : (place : ℕ) → length (neighbours g e.table way at.row) ≤ place → left_at g kind way at table place ≡ left_at g kind way at (table + 1) 0
      followed_past place high = left_past place
          (ap (drop place) met ∙ drop_map (rel e.table) place (numbers g e.table way at.row) ∙ ap (map (rel e.table)) (hop_none g e.table is.of is.table_is way at.row place high))

      module _ (place : ℕ) (edge : Edge) (found_edge : IsEdge g e.table way at.row place edge) where
        pub left_first : left_at g kind way at table place ≡ rel e.table edge.number ∷ left_at g kind way at table (place + 1)
        left_first =
            left_here place
            ∙ ap (λ l. l ++ met_by g kind way at (drop (table + 1) (tables_in g kind way))) (ap (drop place) met ∙ drop_map (rel e.table) place (numbers g e.table way at.row) ∙ ap (map (rel e.table)) (hop_next g e.table is.of is.table_is way at.row place edge found_edge))
            ∙ ap (λ l. rel e.table edge.number ∷ (l ++ met_by g kind way at (drop (table + 1) (tables_in g kind way)))) (sym (ap (drop (place + 1)) met ∙ drop_map (rel e.table) (place + 1) (numbers g e.table way at.row)))
            ∙ ap (λ l. rel e.table edge.number ∷ l) (sym (left_here (place + 1)))

        pub hop_far : far g way (rel e.table edge.number) ≡ Some (record { table = e.far; row = edge.row })
        hop_far = hop_leads g e.table is.of is.table_is way at.row place edge found_edge ∙ ap (λ n. Some (record { table = n; row = edge.row })) (sym is.far_is)

        pub hop_there : edge.row < near_rows g e.table (opposite way) → is_node g (record { table = e.far; row = edge.row }) ≡ true
        hop_there inside =
            let low : edge.row < row_count g.nodes e.far = subst (λ n. edge.row < n) (far_rows_are way e.table is.of is.table_is ∙ ap (row_count g.nodes) (sym is.far_is)) inside in
            grind (arith, nat_tests, low)

    pub unfollowed_past : (place : ℕ) → nat_eq e.near at.table ≡ false → left_at g kind way at table place ≡ left_at g kind way at (table + 1) 0
    unfollowed_past place apart = left_past place
        (drop_none place (met_in g kind way (Some at) e.table) (unfollowed_rels g kind way at e.table is.of is.table_is (ap (λ n. nat_eq n at.table && pointwise nat_eq is.of.name kind) (sym is.near_is) ∙ ap (λ b. b && pointwise nat_eq is.of.name kind) apart)))

  pub none_left : (at : NodeId) (table place : ℕ) → length (tables_in g kind way) ≤ table → left_at g kind way at table place ≡ []
  unfolding left_at
  none_left at table place high = ap (left_from g kind way at place) (drop_all table (tables_in g kind way) high)

  -- what a level has, by its rows
  abbrev AreRows : NodeId → ℕ → List ℕ → Type 0
  AreRows at table rows = rows ≡ near_in g kind way at table

  pub some_met : (at : NodeId) (table place row : ℕ) (rows : List ℕ) → rows ≡ near_in g kind way at table → slice_get rows place ≡ Some row → (e : Followed) → slice_get (tables_in g kind way) table ≡ Some e
      → (nat_eq e.near at.table ≡ true) × (rows ≡ neighbours g e.table way at.row)
  some_met at table place row rows are here e found = go (nat_eq e.near at.table) refl
    where
      rows_are : rows ≡ cond (nat_eq e.near at.table) (neighbours g e.table way at.row) []
      rows_are = rw found at are

      go : (b : Bool) → nat_eq e.near at.table ≡ b → (nat_eq e.near at.table ≡ true) × (rows ≡ neighbours g e.table way at.row)
      go true same = (same, rw same at rows_are)
      go false other =
          let none : rows ≡ [] = rw other at rows_are in
          let lost : None ≡ Some row = sym (ap (λ l. slice_get l place) none) ∙ here in
          absurd (cc lost)

  pub past : (at : NodeId) (table place : ℕ) (rows : List ℕ) → rows ≡ near_in g kind way at table → slice_get rows place ≡ None → (e : Followed) → slice_get (tables_in g kind way) table ≡ Some e
      → left_at g kind way at table place ≡ left_at g kind way at (table + 1) 0
  past at table place rows are here e found = go (nat_eq e.near at.table) refl
    where
      rows_are : rows ≡ cond (nat_eq e.near at.table) (neighbours g e.table way at.row) []
      rows_are = rw found at are

      go : (b : Bool) → nat_eq e.near at.table ≡ b → left_at g kind way at table place ≡ left_at g kind way at (table + 1) 0
      go true same =
          let all : rows ≡ neighbours g e.table way at.row = rw same at rows_are in
          followed_past at table e found same place (slice_get_none (neighbours g e.table way at.row) place (sym (ap (λ l. slice_get l place) all) ∙ here))
      go false other = unfollowed_past at table e found place other

  -- ---- the rows of a level

  pub near_past : (at : NodeId) (table : ℕ) → slice_get (tables_in g kind way) table ≡ None → IsNearIn g kind way at table (One None)
  near_past at table none = record {
    rows = rw none refl;
    few = omega arith;
    ends = λ e found. let lost : None ≡ Some e = sym none ∙ found in absurd (cc lost);
  }

  module _ (at : NodeId) (table : ℕ) (e : Followed) (found : slice_get (tables_in g kind way) table ≡ Some e) where
    pub near_unfollowed : nat_eq e.near at.table ≡ false → IsNearIn g kind way at table (One None)
    near_unfollowed other = record {
      rows = rw (found, other) refl;
      few = omega arith;
      ends = λ q is k d low. absurd (omega (arith, low));
    }

    pub near_followed : nat_eq e.near at.table ≡ true → (near : Near) → rows_in near ≡ neighbours g e.table way at.row → length (rows_in near) < 2 ^ 32
        → All (λ other. other < near_rows g e.table (opposite way)) (rows_in near) → IsNearIn g kind way at table near
    near_followed same near rows few ends = record {
      rows = rw (found, same) rows;
      few = few;
      ends = λ q is. (let one : e ≡ q = (let both : Some e ≡ Some q = sym found ∙ is in cc both) in subst (λ (p : Followed). All (λ other. other < near_rows g p.table (opposite way)) (rows_in near)) one ends);
    }

  -- ---- the relationship at a level's place

  module _ (l : Frame) (level : IsLevelIn g kind way l) (e : Followed) (found : slice_get (tables_in g kind way) l.table ≡ Some e) (row : ℕ) (here : slice_get (rows_in l.near) l.place ≡ Some row) where
    met_rows : (nat_eq e.near l.at.table ≡ true) × (rows_in l.near ≡ neighbours g e.table way l.at.row)
    met_rows = some_met l.at l.table l.place row (rows_in l.near) level.near.rows here e found

    pub met_within : e.table < length g.catalog.rels
    met_within = within l.at l.table e found

    pub met_row : l.at.row < near_rows g e.table way
    met_row = row_within l.at l.table e found met_rows.0 level.node

    pub met_place : slice_get (neighbours g e.table way l.at.row) l.place ≡ Some row
    met_place = ap (λ rows. slice_get rows l.place) (sym met_rows.1) ∙ here

    pub met_few : l.place + 1 < 2 ^ 32
    met_few = (let low : l.place < length (rows_in l.near) = slice_get_within (rows_in l.near) l.place row here in omega (arith, low, level.near.few))

    pub met_some : (number : ℕ) × (slice_get (numbers g e.table way l.at.row) l.place ≡ Some number)
    met_some = number_some l.at l.table e found l.place (slice_get_within (neighbours g e.table way l.at.row) l.place row met_place)

    met_inside : row < near_rows g e.table (opposite way)
    met_inside = all_at (λ other. other < near_rows g e.table (opposite way)) (rows_in l.near) l.place row (level.near.ends e found) here

    module _ (number : ℕ) (is : slice_get (numbers g e.table way l.at.row) l.place ≡ Some number) where
      edge : IsEdge g e.table way l.at.row l.place (record { number = number; row = row })
      edge = record { number = is; leads = met_place }

      pub met_left : left_at g kind way l.at l.table l.place ≡ rel e.table number ∷ left_at g kind way l.at l.table (l.place + 1)
      met_left = left_first l.at l.table e found met_rows.0 l.place (record { number = number; row = row }) edge

      pub met_far : far g way (rel e.table number) ≡ Some (record { table = e.far; row = row })
      met_far = hop_far l.at l.table e found met_rows.0 l.place (record { number = number; row = row }) edge

      pub met_there : is_node g (record { table = e.far; row = row }) ≡ true
      met_there = hop_there l.at l.table e found met_rows.0 l.place (record { number = number; row = row }) edge met_inside

-- ---- the tables of a type, found one after another

module _ (kind : List ℕ) (way : Direction) (rels : List RelTable) (t : ℕ) (k : RelTable) (is : slice_get rels t ≡ Some k) where
  table_next : tables_of kind way t (drop t rels) ≡ cond (pointwise nat_eq k.name kind) (followed way t k ∷ []) [] ++ tables_of kind way (t + 1) (drop (t + 1) rels)
  table_next = ap (tables_of kind way t) (drop_more rels t k (slice_get_within rels t k is) ∙ ap (λ q. q ∷ drop (t + 1) rels) (get_or_from_slice_get rels t k k is))

  pub table_in : (found : List Followed) → pointwise nat_eq k.name kind ≡ true → (found ++ followed way t k ∷ []) ++ tables_of kind way (t + 1) (drop (t + 1) rels) ≡ found ++ tables_of kind way t (drop t rels)
  table_in found named =
      append_assoc found (followed way t k ∷ []) (tables_of kind way (t + 1) (drop (t + 1) rels))
      ∙ ap (λ l. found ++ l) (sym (table_next ∙ ap (λ b. cond b (followed way t k ∷ []) [] ++ tables_of kind way (t + 1) (drop (t + 1) rels)) named))

  pub table_out : (found : List Followed) → pointwise nat_eq k.name kind ≡ false → found ++ tables_of kind way (t + 1) (drop (t + 1) rels) ≡ found ++ tables_of kind way t (drop t rels)
  table_out found named = ap (λ l. found ++ l) (sym (table_next ∙ ap (λ b. cond b (followed way t k ∷ []) [] ++ tables_of kind way (t + 1) (drop (t + 1) rels)) named))
