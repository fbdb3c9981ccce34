-- From a row that is not marked a list leads to no chosen row, where the rows are marked in whose lists, the other way round, chosen rows stand.
use Rattle.std.proofs.Common.{◌≡◌, ℕ, zero, suc, ◌+◌, ◌<◌, ◌≤◌, Bool, true, false, not, ◌||◌, cond, eqb, nat_eq, Some, List, [], ◌∷◌, map, length, get_or, slice_get, refl, sym, ap, ap₂, ◌∙◌, subst, arith}
use Rattle.std.specs.Prelude.{All}
use Rattle.std.specs.List.{AllByRecursion, range_with_len}
use Rattle.std.proofs.lemmas.Bool.{eq-eqb, eqb-true}
use Rattle.std.proofs.lemmas.Option.{get_or_from_slice_get}
use Rattle.gq_adj.specs.Adjacent.{targets}
use Rattle.gq_base.specs.Directions.{opposite}
use Rattle.gq_base.specs.Plain.{Graph, rels_at}
use Rattle.gq_base.specs.Valid.{is_valid}
use Rattle.gq_base.specs.declared.NodeId.{NodeId}
use Rattle.gq_base.specs.declared.PlainRel.{PlainRel}
use Rattle.gq_base.specs.declared.RelTable.{RelTable}
use Rattle.gq_base.specs.declared.direction.Direction.{Direction}
use Rattle.gq_base.specs.declared.direction.Direction.TheVariants.{Forward, Backward}
use Rattle.gq_plan.specs.Assignments.{source, target, source_in, target_in, rels_of}
use Rattle.gq_plan.specs.Covers.{after_step}
use Rattle.gq_plan.specs.Known.{Known}
use Rattle.gq_plan.specs.Meaning.{Partial, look, near, far}
use Rattle.gq_plan.specs.Plans.{Extend}
use Rattle.gq_plan.specs.Rows.{node_table}
use Rattle.gq_plan.specs.declared.typed.Typed.{Typed}
use Rattle.gq_plan.specs.declared.typed.TypedRel.{TypedRel}
use Rattle.gq_store.proofs.Validity.{ends_below, length-ends}
use Rattle.gq_store.specs.Neighbours.{near_end, near_ends, near_rows, neighbours}
use Rattle.gq_law_groups.specs.Groups.{Group}
use Rattle.gq_law_groups.specs.Layout.{ArePlaced}
use Rattle.gq_law_groups.proofs.Closing.{Marks}
use Rattle.gq_law_groups.proofs.Ending.{EndsAt}
use Rattle.gq_law_masks.specs.Alone.{Asks, passes_alone, reads_alone}
use Rattle.gq_law_masks.specs.Nothing.{LeavesNothing, MakeNothing}
use Rattle.gq_law_masks.proofs.Alone.{alone_refuses}
use Rattle.gq_law_masks.proofs.Leading.{behind_end, lists_end, refused_end}

-- what all targets of a pair's vertex are, its item is
all_target : (P : ℕ → Bool) (fs ts : List ℕ) (i : ℕ) → i < length fs → length fs ≡ length ts → All (λ n. P n ≡ true) (targets (get_or fs i 0) fs ts) → P (get_or ts i 0) ≡ true
all_target P [] ts i low long all = absurd (omega arith)
all_target P (f ∷ fs) [] i low long all = absurd (omega arith)
all_target P (f ∷ fs) (t ∷ ts) zero low long all = (let h : All (λ n. P n ≡ true) (t ∷ targets f fs ts) = subst (λ b. All (λ n. P n ≡ true) (cond b (t ∷ targets f fs ts) (targets f fs ts))) (eq-eqb f f refl) all in h 0 0 (omega arith))
all_target P (f ∷ fs) (t ∷ ts) (suc i) low long all = all_target P fs ts i (omega arith) (omega arith) (go (eqb f (get_or fs i 0)) all)
  where
    go : (b : Bool) → All (λ n. P n ≡ true) (cond b (t ∷ targets (get_or fs i 0) fs ts) (targets (get_or fs i 0) fs ts)) → All (λ n. P n ≡ true) (targets (get_or fs i 0) fs ts)
    go true h = λ k d less. h (suc k) d (omega (arith, less))
    go false h = h

ends-at : (way : Direction) (rs : List PlainRel) (k : ℕ) (r : PlainRel) → slice_get rs k ≡ Some r → get_or (map (near_end way) rs) k 0 ≡ near_end way r
ends-at way [] k r e = absurd (cc e)
ends-at way (q ∷ rs) zero r e = let same : q ≡ r = cc in ap (near_end way) same
ends-at way (q ∷ rs) (suc k) r e = ends-at way rs k r e

back : (way : Direction) → opposite (opposite way) ≡ way
back Forward = refl
back Backward = refl

-- the node table to which relationships of a table lead on a way, and the one from which
abbrev pub far_table : Direction → RelTable → ℕ
far_table Forward k = k.to
far_table Backward k = k.from

-- a node of the table is chosen by its row; no other node is told of
abbrev pub selected : (ℕ → Bool) → ℕ → NodeId → Bool
selected chosen table n = not (nat_eq n.table table) || chosen n.row

module _ (g : Graph) (t : ℕ) (k : RelTable) (table_is : slice_get g.catalog.rels t ≡ Some k) (number : ℕ) (p : PlainRel) (there : slice_get (rels_at g t) number ≡ Some p) where
  near_row : (way : Direction) (n : NodeId) → near g way (record { table = t; row = number }) ≡ Some n → get_or (near_ends g t way) number 0 ≡ n.row
  unfolding source target
  near_row Forward n h =
      let found : source_in (Some k) (Some p) ≡ Some n = ap₂ source_in (sym table_is) (sym there) ∙ h in
      let same : record { table = k.from; row = p.source } ≡ n = cc found in
      ends-at Forward (rels_at g t) number p there ∙ ap (λ (m : NodeId). m.row) same
  near_row Backward n h =
      let found : target_in (Some k) (Some p) ≡ Some n = ap₂ target_in (sym table_is) (sym there) ∙ h in
      let same : record { table = k.to; row = p.target } ≡ n = cc found in
      ends-at Backward (rels_at g t) number p there ∙ ap (λ (m : NodeId). m.row) same

  far_row : (way : Direction) (n : NodeId) → far g way (record { table = t; row = number }) ≡ Some n → (get_or (near_ends g t (opposite way)) number 0 ≡ n.row) × (far_table way k ≡ n.table)
  unfolding source target
  far_row Forward n h =
      let found : target_in (Some k) (Some p) ≡ Some n = ap₂ target_in (sym table_is) (sym there) ∙ h in
      let same : record { table = k.to; row = p.target } ≡ n = cc found in
      (ends-at Backward (rels_at g t) number p there ∙ ap (λ (m : NodeId). m.row) same, ap (λ (m : NodeId). m.table) same)
  far_row Backward n h =
      let found : source_in (Some k) (Some p) ≡ Some n = ap₂ source_in (sym table_is) (sym there) ∙ h in
      let same : record { table = k.from; row = p.source } ≡ n = cc found in
      (ends-at Forward (rels_at g t) number p there ∙ ap (λ (m : NodeId). m.row) same, ap (λ (m : NodeId). m.table) same)

pub get-some : {X : Type 0} (xs : List X) (i : ℕ) → i < length xs → (x : X) × (slice_get xs i ≡ Some x)
get-some [] i low = absurd (omega arith)
get-some (x ∷ xs) zero low = (x, refl)
get-some (x ∷ xs) (suc i) low = get-some xs i (omega arith)

pub all-range : {X : Type 0} (P : X → Type 0) (f : ℕ → X) (a n : ℕ) → ((i : ℕ) → i < a + n → P (f i)) → AllByRecursion P (map f (range_with_len a n))
all-range P f a zero h = tt
all-range P f a (suc n) h = (h a (omega arith), all-range P f (a + 1) n (λ i low. h i (omega (arith, low))))

module _ (g : Graph) (y : Typed) (x : ℕ) (r : TypedRel) (t : RelTable) (is : slice_get y.rels x ≡ Some r) (table_is : slice_get g.catalog.rels r.table ≡ Some t) (valid : is_valid g ≡ true) (within : r.table < length g.catalog.rels)
    (way : Direction) (chosen marked : ℕ → Bool) (told : ℕ) (whole : near_rows g r.table (opposite way) ≤ told)
    (are : (q : ℕ) → q < told → chosen q ≡ true → All (λ row. marked row ≡ true) (neighbours g r.table (opposite way) q)) where
  one : (number : ℕ) (p : PlainRel) → number < length (rels_at g r.table) → slice_get (rels_at g r.table) number ≡ Some p → (m : NodeId) → far g way (record { table = r.table; row = number }) ≡ Some m → selected chosen (far_table way t) m ≡ true
      → (n : NodeId) → near g way (record { table = r.table; row = number }) ≡ Some n → marked n.row ≡ true
  one number p low there m f on n h =
      let far_is = far_row g r.table t table_is number p there way m f in
      let near_is = near_row g r.table t table_is number p there way n h in
      let long_far = length-ends g r.table valid within (opposite way) in
      let long_near = length-ends g r.table valid within way in
      let inside : get_or (near_ends g r.table (opposite way)) number 0 < near_rows g r.table (opposite way) = ends_below g r.table valid within (opposite way) number 0 (omega (arith, low, long_far)) in
      let here : chosen (get_or (near_ends g r.table (opposite way)) number 0) ≡ true =
      ap chosen far_is.0 ∙ sym (ap (λ b. not b || chosen m.row) (eq-eqb m.table (far_table way t) (sym far_is.1))) ∙ on in
      let all : All (λ row. marked row ≡ true) (targets (get_or (near_ends g r.table (opposite way)) number 0) (near_ends g r.table (opposite way)) (near_ends g r.table way)) =
      subst (λ w. All (λ row. marked row ≡ true) (targets (get_or (near_ends g r.table (opposite way)) number 0) (near_ends g r.table (opposite way)) (near_ends g r.table w))) (back way)
      (are (get_or (near_ends g r.table (opposite way)) number 0) (omega (arith, inside, whole)) here) in
      sym (ap marked near_is) ∙ all_target marked (near_ends g r.table (opposite way)) (near_ends g r.table way) number (omega (arith, low, long_far)) (long_far ∙ sym long_near) all

  marks : Marks g y x way (selected chosen (far_table way t)) (λ n. marked n.row)
  unfolding rels_of
  marks =
      rw is (all-range (λ q. (m : NodeId) → far g way q ≡ Some m → selected chosen (far_table way t) m ≡ true → (n : NodeId) → near g way q ≡ Some n → marked n.row ≡ true) (λ row. record { table = r.table; row = row }) 0 (length (rels_at g r.table))
      (λ i low. (let inside : i < length (rels_at g r.table) = omega (arith, low) in
      let p = get-some (rels_at g r.table) i inside in
      one i p.0 inside p.1)))

-- a row of a variable's table
abbrev pub row_of : Typed → ℕ → ℕ → NodeId
row_of y v q = record { table = node_table y v; row = q }

-- a group that follows a list from a row that is not marked, of whose chosen rows all near ones are marked, makes nothing where it leaves
-- nothing of those that are not chosen
pub masked_end : (g : Graph) (y : Typed) (rows : ℕ → List Partial) (i : ℕ) (b : Group) (gs : List Group) (k : Known) (a : Partial) (x from to : ℕ) (way : Direction) (r : TypedRel) (t : RelTable) (n : NodeId) (chosen marked : ℕ → Bool) (told : ℕ)
    → slice_get y.rels x ≡ Some r → slice_get g.catalog.rels r.table ≡ Some t → is_valid g ≡ true → r.table < length g.catalog.rels → slice_get y.nodes to ≡ Some (far_table way t)
    → near_rows g r.table (opposite way) ≤ told
    → ((q : ℕ) → q < told → chosen q ≡ true → All (λ row. marked row ≡ true) (neighbours g r.table (opposite way) q))
    → b.binds ≡ Extend false x from to way
    → ((q : ℕ) → chosen q ≡ false → LeavesNothing g y rows i b gs to (row_of y to q))
    → k.nodes from ≡ true → look a.nodes from ≡ Some n → marked n.row ≡ false → EndsAt g y rows i b gs k a
masked_end g y rows i b gs k a x from to way r t n chosen marked told is table_is valid within far_is whole are binds none known here off =
    lists_end g y rows (selected chosen (far_table way t)) (λ m. marked m.row) i b gs k a x from to way n binds
    (marks g y x r t is table_is valid within way chosen marked told whole are) known here off
    (λ e m there off_m. leaves m off_m e there)
  where
    table : node_table y to ≡ far_table way t
    table = get_or_from_slice_get y.nodes to (far_table way t) 0 far_is

    leaves : (m : NodeId) → selected chosen (far_table way t) m ≡ false → LeavesNothing g y rows i b gs to m
    leaves m off_m = go (nat_eq m.table (far_table way t)) refl off_m
      where
        go : (c : Bool) → nat_eq m.table (far_table way t) ≡ c → (not c || chosen m.row) ≡ false → LeavesNothing g y rows i b gs to m
        go true same h =
            (let one : node_table y to ≡ m.table = table ∙ sym (eqb-true m.table (far_table way t) same) in
            let whole_is : record { table = node_table y to; row = m.row } ≡ m = (λ j. record { table = one j; row = m.row }) in
            subst (LeavesNothing g y rows i b gs to) whole_is (none m.row h))
        go false other h = cc h

-- the node to which a list leads is known behind it
known_to : (b : Group) (k : Known) (x from to : ℕ) (way : Direction) → b.binds ≡ Extend false x from to way → (after_step b.binds k).nodes to ≡ true
unfolding after_step
known_to b k x from to way binds = ap (λ s. (after_step s k).nodes to) binds ∙ ap (λ c. c || k.nodes to) (eq-eqb to to refl)

module _ (g : Graph) (y : Typed) (rows : ℕ → List Partial) (i : ℕ) (b : Group) (gs : List Group) (k : Known) (x from to : ℕ) (way : Direction) (binds : b.binds ≡ Extend false x from to way) (placed : ArePlaced g.catalog y b.checks (after_step b.binds k)) (q : ℕ) where
  -- it leaves nothing of a row that a test refuses which reads that node alone
  pub test_leaves : (test : ℕ) → Asks test b.checks → reads_alone y to test ≡ true → passes_alone g y to test q ≡ false → LeavesNothing g y rows i b gs to (row_of y to q)
  test_leaves test asks alone off = refused_end g y rows i b gs k test to (row_of y to q) placed (known_to b k x from to way binds) asks (alone_refuses g y to q test alone off)

  -- nor of one of which the groups behind it make nothing
  pub behind_leaves : MakeNothing g y rows (i + 1) gs to (row_of y to q) → LeavesNothing g y rows i b gs to (row_of y to q)
  behind_leaves none = behind_end g y rows i b gs k to (row_of y to q) placed (known_to b k x from to way binds) none
