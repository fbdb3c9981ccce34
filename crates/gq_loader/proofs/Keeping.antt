-- A graph stays valid while its tables are read, one after the other.
use Rattle.std.proofs.Common.{◌≡◌, ◌≢◌, ℕ, zero, suc, ◌+◌, ◌<◌, ◌≤◌, ◌^◌, Bool, true, List, [], ◌∷◌}
use Rattle.std.proofs.Common.{length, get_or, Some, None, refl, sym, ap, ◌∙◌, arith}
use Rattle.std.specs.Prelude.{◌&&◌, nat_lt, nat_le, All, AllPairs, replicate, slice_get, slice_set}
use Rattle.std.specs.Prelude.{unwrap_or}
use Rattle.std.specs.List.{list_all}
use Rattle.std.specs.declared.option.Option.{Option}
use Rattle.std.proofs.lemmas.Bool.Decides.{nat_tests}
use Rattle.std.proofs.lemmas.List.{get_or_default, length-replicate, length-set}
use Rattle.std.proofs.lemmas.List.Elements.{All-head, All-tail, All-set}
use Rattle.std.proofs.lemmas.Option.{get_or_from_slice_get, slice_get_within}
use Rattle.gq_base.proofs.ListLaws.{two}
use Rattle.gq_base.specs.Catalogs.{Tables, with_node_fields, with_rel_fields}
use Rattle.gq_base.specs.Lists.{all_zip}
use Rattle.gq_base.specs.Plain.{Graph, rows_of}
use Rattle.gq_base.specs.Valid.{are_fields, are_nodes, are_rels, fits_fields, has_ends, has_keys}
use Rattle.gq_base.specs.Valid.{is_rel, is_valid, keeps_mult, row_count}
use Rattle.gq_base.specs.declared.catalog.Field.{Field}
use Rattle.gq_base.specs.declared.catalog.Mult.{Mult}
use Rattle.gq_base.specs.declared.catalog.Mult.TheVariants.{ManyMany, ManyOne, OneMany, OneOne}
use Rattle.gq_base.specs.declared.catalog.NodeTable.{NodeTable}
use Rattle.gq_base.specs.declared.catalog.RelTable.{RelTable}
use Rattle.gq_base.specs.declared.cell.Cell.{Cell}
use Rattle.gq_base.specs.declared.cell.PlainRel.{PlainRel}
use Rattle.gq_manifest.specs.Manifests.{AreWhole}
use Rattle.gq_manifest.specs.declared.manifest.TableNumber.{TableNumber}
use Rattle.gq_manifest.specs.declared.manifest.TableNumber.TheVariants as table
use Rattle.gq_loader.specs.steps.Answers.{IsUnread, KeepsOthers}

abbrev Rows : Type 0
Rows = List (List (Option Cell))

-- ---- two lists side by side

both : (a b : Bool) → a ≡ true → b ≡ true → (a && b) ≡ true
both a b p q = rw (p, q) refl

module _ {A B : Type 0} (p : A → B → Bool) where
  -- another item on either side of a place
  zip-set : (xs : List A) (ys : List B) (at : ℕ) (x : A) (y : B) → all_zip p xs ys ≡ true
      → p x y ≡ true → all_zip p (slice_set xs at x) (slice_set ys at y) ≡ true
  zip-set [] [] at x y h e = refl
  zip-set [] (b ∷ ys) at x y h e = cc h
  zip-set (a ∷ xs) [] at x y h e = cc h
  zip-set (a ∷ xs) (b ∷ ys) zero x y h e = both (p x y) (all_zip p xs ys) e (two (p a b) (all_zip p xs ys) h).1
  zip-set (a ∷ xs) (b ∷ ys) (suc at) x y h e =
      let k = two (p a b) (all_zip p xs ys) h in
      both (p a b) (all_zip p (slice_set xs at x) (slice_set ys at y)) k.0 (zip-set xs ys at x y k.1 e)

  zip-weaker : (q : A → B → Bool) → ((x : A) (y : B) → p x y ≡ true → q x y ≡ true)
      → (xs : List A) (ys : List B) → all_zip p xs ys ≡ true → all_zip q xs ys ≡ true
  zip-weaker q f [] [] h = refl
  zip-weaker q f [] (b ∷ ys) h = cc h
  zip-weaker q f (a ∷ xs) [] h = cc h
  zip-weaker q f (a ∷ xs) (b ∷ ys) h =
      let k = two (p a b) (all_zip p xs ys) h in
      both (q a b) (all_zip q xs ys) (f a b k.0) (zip-weaker q f xs ys k.1)

all-weaker : {A : Type 0} (p q : A → Bool) → ((x : A) → p x ≡ true → q x ≡ true) → (xs : List A)
    → list_all p xs ≡ true → list_all q xs ≡ true
all-weaker p q f [] h = refl
all-weaker p q f (x ∷ xs) h = let k = two (p x) (list_all p xs) h in both (q x) (list_all q xs) (f x k.0) (all-weaker p q f xs k.1)

found : {X : Type 0} (xs : List X) (at : ℕ) → at < length xs → (x : X) × (slice_get xs at ≡ Some x)
found [] at h = absurd (omega arith)
found (x ∷ xs) zero h = (x, refl)
found (x ∷ xs) (suc at) h = found xs at (omega arith)

other_stays : {X : Type 0} (xs : List X) (at other : ℕ) (x : X) → other ≢ at
    → slice_get (slice_set xs at x) other ≡ slice_get xs other
other_stays [] at other x h = refl
other_stays (y ∷ xs) zero zero x h = absurd (h refl)
other_stays (y ∷ xs) zero (suc other) x h = refl
other_stays (y ∷ xs) (suc at) zero x h = refl
other_stays (y ∷ xs) (suc at) (suc other) x h = other_stays xs at other x (λ e. h (ap suc e))

fewer : (m n : ℕ) → m ≤ n → nat_le m n ≡ true
fewer m n h = grind (arith, nat_tests)

less : (m n : ℕ) → m < n → nat_lt m n ≡ true
less m n h = grind (arith, nat_tests)

-- ---- the parts of validity

record IsWhole (graph : Graph) : Type 0 where
  few_nodes : nat_le (length graph.catalog.nodes) 64 ≡ true
  few_rels : nat_le (length graph.catalog.rels) 64 ≡ true
  nodes : all_zip are_nodes graph.catalog.nodes graph.nodes ≡ true
  rels : all_zip (are_rels graph.nodes) graph.catalog.rels graph.rels ≡ true

parts : (graph : Graph) → is_valid graph ≡ true → IsWhole graph
parts graph h =
    let n = nat_le (length graph.catalog.nodes) 64 in
    let r = nat_le (length graph.catalog.rels) 64 in
    let nodes = all_zip are_nodes graph.catalog.nodes graph.nodes in
    let a = two (n && r && nodes) (all_zip (are_rels graph.nodes) graph.catalog.rels graph.rels) h in
    let b = two (n && r) nodes a.0 in
    let c = two n r b.0 in
    record { few_nodes = c.0; few_rels = c.1; nodes = b.1; rels = a.1 }

whole : (graph : Graph) → IsWhole graph → is_valid graph ≡ true
whole graph h = rw (h.few_nodes, h.few_rels, h.nodes, h.rels) refl

-- ---- no table was read

empty_nodes : (tables : List NodeTable) → All (λ t. t.fields ≡ []) tables
    → all_zip are_nodes tables (replicate (length tables) []) ≡ true
empty_nodes [] h = refl
empty_nodes (t ∷ tables) h =
    let none : t.fields ≡ [] = All-head (λ t. t.fields ≡ []) t tables h in
    both (are_nodes t []) (all_zip are_nodes tables (replicate (length tables) [])) (rw none refl) (empty_nodes tables (All-tail (λ t. t.fields ≡ []) t tables h))

none_kept : (mult : Mult) → keeps_mult mult [] ≡ true
none_kept ManyMany = refl
none_kept ManyOne = refl
none_kept OneMany = refl
none_kept OneOne = refl

empty_rels : (nodes : List Rows) (tables : List RelTable)
    → All (λ t. (t.from < length nodes) × (t.to < length nodes)) tables
    → All (λ t. t.fields ≡ []) tables
    → all_zip (are_rels nodes) tables (replicate (length tables) []) ≡ true
empty_rels nodes [] ends h = refl
empty_rels nodes (t ∷ tables) ends h =
    let none : t.fields ≡ [] = All-head (λ t. t.fields ≡ []) t tables h in
    let here = All-head (λ t. (t.from < length nodes) × (t.to < length nodes)) t tables ends in
    both (are_rels nodes t []) (all_zip (are_rels nodes) tables (replicate (length tables) []))
    (rw (none, less t.from (length nodes) here.0, less t.to (length nodes) here.1, none_kept t.mult) refl)
    (empty_rels nodes tables (All-tail (λ t. (t.from < length nodes) × (t.to < length nodes)) t tables ends) (All-tail (λ t. t.fields ≡ []) t tables h))

pub empty_valid : (graph : Graph) (tables : Tables) → AreWhole tables → graph.catalog ≡ tables
    → graph.nodes ≡ replicate (length tables.nodes) []
    → graph.rels ≡ replicate (length tables.rels) [] → is_valid graph ≡ true
empty_valid graph tables h catalog nodes rels =
    let size : length (replicate {A = Rows} (length tables.nodes) []) ≡ length tables.nodes = length-replicate (length tables.nodes) [] in
    rw (catalog, nodes, rels) (whole (record { catalog = tables; nodes = replicate (length tables.nodes) []; rels = replicate (length tables.rels) [] }) record {
      few_nodes = fewer (length tables.nodes) 64 h.few_nodes;
      few_rels = fewer (length tables.rels) 64 h.few_rels;
      nodes = empty_nodes tables.nodes h.node_fields;
      rels = empty_rels (replicate (length tables.nodes) []) tables.rels (rw size h.ends) h.rel_fields;
    })

none_yet : (tables number : ℕ) → row_count (replicate tables []) number ≡ 0
none_yet zero number = refl
none_yet (suc tables) zero = refl
none_yet (suc tables) (suc number) = none_yet tables number

all_unread : (graph : Graph) (tables : ℕ) → graph.nodes ≡ replicate tables []
    → (number : TableNumber) → IsUnread graph number
all_unread graph tables e (table.Node number) = rw e (none_yet tables number)
all_unread graph tables e (table.Rel number) = tt

pub none_read : (graph : Graph) (tables : ℕ) (order : List TableNumber)
    → graph.nodes ≡ replicate tables [] → All (IsUnread graph) order
none_read graph tables order e = λ at d within. all_unread graph tables e (get_or order at d)

-- ---- a node table is read

-- no node table has fewer rows, where one that had none has others
counts_grow : (nodes : List Rows) (number : ℕ) (rows : Rows) (at : ℕ) → row_count nodes number ≡ 0
    → row_count nodes at ≤ row_count (slice_set nodes number rows) at
counts_grow [] number rows at h = omega arith
counts_grow (x ∷ nodes) zero rows zero h = omega arith
counts_grow (x ∷ nodes) zero rows (suc at) h = omega arith
counts_grow (x ∷ nodes) (suc number) rows zero h = omega arith
counts_grow (x ∷ nodes) (suc number) rows (suc at) h = counts_grow nodes number rows at h

rel_stays : (fields : List Field) (sources targets more_sources more_targets : ℕ)
    → sources ≤ more_sources → targets ≤ more_targets → (rel : PlainRel)
    → is_rel fields sources targets rel ≡ true
    → is_rel fields more_sources more_targets rel ≡ true
rel_stays fields sources targets more_sources more_targets s t rel h =
    let a = two (nat_lt rel.source sources && nat_lt rel.target targets) (fits_fields fields rel.cells) h in
    let b = two (nat_lt rel.source sources) (nat_lt rel.target targets) a.0 in
    let source : nat_lt rel.source more_sources ≡ true = grind (arith, nat_tests, b.0) in
    let target : nat_lt rel.target more_targets ≡ true = grind (arith, nat_tests, b.1) in
    rw (source, target, a.1) refl

module _ (old new : List Rows) (size : length new ≡ length old) (grows : (at : ℕ) → row_count old at ≤ row_count new at) where
  rels_stay : (t : RelTable) (rels : List PlainRel) → are_rels old t rels ≡ true
      → are_rels new t rels ≡ true
  rels_stay t rels h =
      let ends = has_ends (length old) t in
      let fields = are_fields t.fields in
      let few = nat_le (length rels) (2 ^ 25) in
      let fit = list_all (is_rel t.fields (row_count old t.from) (row_count old t.to)) rels in
      let a = two (ends && fields && few && fit) (keeps_mult t.mult rels) h in
      let b = two (ends && fields && few) fit a.0 in
      let c = two (ends && fields) few b.0 in
      let d = two ends fields c.0 in
      let more = all-weaker (is_rel t.fields (row_count old t.from) (row_count old t.to)) (is_rel t.fields (row_count new t.from) (row_count new t.to))
      (rel_stays t.fields (row_count old t.from) (row_count old t.to) (row_count new t.from) (row_count new t.to) (grows t.from) (grows t.to)) rels b.1 in
      rw (size, d.0, d.1, c.1, more, a.1) refl

pub nodes_valid : (old new : Graph) (number : ℕ) (fields : List Field) (rows : Rows)
    → new.catalog ≡ record old.catalog { nodes = with_node_fields number fields old.catalog.nodes }
    → new.nodes ≡ slice_set old.nodes number rows → new.rels ≡ old.rels
    → is_valid old ≡ true → number < length old.catalog.nodes → row_count old.nodes number ≡ 0
    → length rows ≤ 2 ^ 24 → are_fields fields ≡ true → list_all (fits_fields fields) rows ≡ true
    → has_keys rows ≡ true
    → is_valid new ≡ true
nodes_valid old new number fields rows catalog nodes rels valid within none few named fit keys =
    let h = parts old valid in
    let (t, is) = found old.catalog.nodes number within in
    let good : are_nodes (record t { fields = fields }) rows ≡ true = rw (named, fewer (length rows) (2 ^ 24) few, fit, keys) refl in
    rw (catalog, nodes, rels, is) (whole (record { catalog = record old.catalog { nodes = slice_set old.catalog.nodes number (record t { fields = fields }) }; nodes = slice_set old.nodes number rows; rels = old.rels }) record {
      few_nodes = rw (length-set old.catalog.nodes number (record t { fields = fields })) h.few_nodes;
      few_rels = h.few_rels;
      nodes = zip-set are_nodes old.catalog.nodes old.nodes number (record t { fields = fields }) rows h.nodes good;
      rels = zip-weaker (are_rels old.nodes) (are_rels (slice_set old.nodes number rows))
          (rels_stay old.nodes (slice_set old.nodes number rows) (length-set old.nodes number rows) (λ at. counts_grow old.nodes number rows at none)) old.catalog.rels old.rels h.rels;
    })

-- ---- a relationship table is read

pub rels_valid : (old new : Graph) (number : ℕ) (t : RelTable) (fields : List Field) (rels : List PlainRel)
    → new.catalog ≡ record old.catalog { rels = with_rel_fields number fields old.catalog.rels }
    → new.nodes ≡ old.nodes → new.rels ≡ slice_set old.rels number rels
    → is_valid old ≡ true → slice_get old.catalog.rels number ≡ Some t
    → All (λ y. (y.from < length old.nodes) × (y.to < length old.nodes)) old.catalog.rels
    → length rels ≤ 2 ^ 25 → are_fields fields ≡ true
    → list_all (is_rel fields (row_count old.nodes t.from) (row_count old.nodes t.to)) rels ≡ true → keeps_mult t.mult rels ≡ true
    → is_valid new ≡ true
rels_valid old new number t fields rels catalog nodes same valid is ends few named fit kept =
    let h = parts old valid in
    let (from, to) = rw (get_or_from_slice_get old.catalog.rels number t t is) at (ends number t (slice_get_within old.catalog.rels number t is)) in
    let good : are_rels old.nodes (record t { fields = fields }) rels ≡ true = rw (less t.from (length old.nodes) from, less t.to (length old.nodes) to, named, fewer (length rels) (2 ^ 25) few, fit, kept) refl in
    rw (catalog, nodes, same, is) (whole (record { catalog = record old.catalog { rels = slice_set old.catalog.rels number (record t { fields = fields }) }; nodes = old.nodes; rels = slice_set old.rels number rels }) record {
      few_nodes = h.few_nodes;
      few_rels = rw (length-set old.catalog.rels number (record t { fields = fields })) h.few_rels;
      nodes = h.nodes;
      rels = zip-set (are_rels old.nodes) old.catalog.rels old.rels number (record t { fields = fields }) rels h.rels good;
    })

-- the node tables at the ends of one are there
pub ends_there : (graph : Graph) (number : ℕ) (t : RelTable) → slice_get graph.catalog.rels number ≡ Some t
    → All (λ y. (y.from < length graph.nodes) × (y.to < length graph.nodes)) graph.catalog.rels → (t.from < length graph.nodes) × (t.to < length graph.nodes)
ends_there graph number t is ends =
    rw (get_or_from_slice_get graph.catalog.rels number t t is) at (ends number t (slice_get_within graph.catalog.rels number t is))

-- the node tables at the ends of relationships are there still
pub ends_stay : (old new : Graph) (number : ℕ) (t : RelTable) (fields : List Field)
    → new.catalog ≡ record old.catalog { rels = with_rel_fields number fields old.catalog.rels } → new.nodes ≡ old.nodes
    → slice_get old.catalog.rels number ≡ Some t → All (λ y. (y.from < length old.nodes) × (y.to < length old.nodes)) old.catalog.rels
    → All (λ y. (y.from < length new.nodes) × (y.to < length new.nodes)) new.catalog.rels
ends_stay old new number t fields catalog nodes is ends =
    let here = rw (get_or_from_slice_get old.catalog.rels number t t is) at (ends number t (slice_get_within old.catalog.rels number t is)) in
    rw (catalog, nodes, is) (All-set (λ y. (y.from < length old.nodes) × (y.to < length old.nodes)) old.catalog.rels number (record t { fields = fields }) here ends)

-- how many rows there are at an end
pub count_at : (rows : Option Rows) → length (unwrap_or rows []) ≡ length (rows_of rows)
count_at None = refl
count_at (Some rows) = refl

-- ---- the tables that are still to be read

still_unread : (old new : Graph) (read other : TableNumber) → KeepsOthers read old new
    → other ≢ read → IsUnread old other → IsUnread new other
still_unread old new read (table.Node number) keeps h none = rw (keeps number h) none
still_unread old new read (table.Rel number) keeps h none = tt

-- one more was read, and it stands once
pub unread_next : (old new : Graph) (order : List TableNumber) (at : ℕ) (d : TableNumber)
    → at < length order → AllPairs (λ a b. a ≢ b) order → KeepsOthers (get_or order at d) old new
    → ((k : ℕ) (e : TableNumber) → at ≤ k → k < length order → IsUnread old (get_or order k e))
    → (k : ℕ) (e : TableNumber) → at + 1 ≤ k → k < length order → IsUnread new (get_or order k e)
unread_next old new order at d here once keeps unread k e later within =
    let other = once at k e (omega arith) within in
    still_unread old new (get_or order at d) (get_or order k e) keeps (λ same. other (get_or_default order at e d here ∙ sym same)) (unread k e (omega arith) within)

-- the rows of the other tables, where one table has others
pub others_keep : (old new : Graph) (number : ℕ) (rows : Rows)
    → new.nodes ≡ slice_set old.nodes number rows → KeepsOthers (table.Node number) old new
others_keep old new number rows e other h = rw e (other_stays old.nodes number other rows (λ same. h (ap table.Node same)))
