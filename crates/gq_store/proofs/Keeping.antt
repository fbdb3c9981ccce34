-- How the cells of tables are kept, property by property.
use Rattle.std.proofs.Common.{◌≡◌, ◌≢◌, ℕ, zero, suc, ◌+◌, ◌<◌, ◌≤◌, List, [], ◌∷◌, ◌++◌, Some, None, Option, true, length, get_or, map, take, refl, sym, ap, ◌∙◌, subst, arith, inl, inr, Bor}
use Rattle.std.specs.Prelude.{◌&&◌, All, IfSome, nat_lt, slice_get}
use Rattle.std.specs.List.{list_all}
use Rattle.std.proofs.lemmas.Bool.{cases_lt}
use Rattle.std.proofs.lemmas.List.{map-append, take_more, get_or_append_left, get_or-append-add, length_push, get_or-map, length-map, length-set}
use Rattle.std.proofs.Math.ListN.{set}
use Rattle.std.proofs.lemmas.Option.{slice_get-get_or}
use Rattle.gq_base.specs.Plain.{Graph, cell_at, rows_of, rels_at, all_of}
use Rattle.gq_base.proofs.ListLaws.{two}
use Rattle.gq_base.specs.Valid.{fits_fields, is_cell_of, is_of_kind, is_rel, is_valid, row_count}
use Rattle.gq_base.specs.declared.cell.PlainRel.{PlainRel}
use Rattle.gq_base.specs.declared.catalog.Field.{Field}
use Rattle.gq_base.specs.declared.cell.Cell.{Cell}
use Rattle.gq_store.specs.Cells.{node_cell, node_fields, node_fields_of, rel_cell_in, rel_fields, rel_fields_of}
use Rattle.gq_store.specs.Columns.{Encoded, column_of, decoded, node_cells}
use Rattle.gq_store.specs.steps.Kept.{AreNodesKept, AreRelsKept, AreTableCells, IsPropertyOf}
use Rattle.gq_store.specs.RelColumns.{cell_numbered, numbers_by_place, rel_cells}
use Rattle.gq_store.specs.declared.property.TableCells.{TableCells}
use Rattle.gq_store.proofs.Linking.{pushed}
use Rattle.gq_store.proofs.Validity.{all-at, node_table, rel_table, zip-at, zip-length, row_length}

cell_at_is : (row : List (Option Cell)) (property : ℕ) (cell : Option Cell) → slice_get row property ≡ Some cell → cell_at row (Some property) ≡ cell
cell_at_is row property cell is = rw is refl

-- one more row of a property
pub column_more : (property k : ℕ) (rows : List (List (Option Cell))) (cells : List (Bor (Option Cell))) (row : List (Option Cell)) (cell : Option Cell) (item : Bor (Option Cell))
    → map (λ (c : Bor (Option Cell)). c.now) cells ≡ column_of property (take k rows) → k < length rows → row ≡ get_or rows k row → slice_get row property ≡ Some cell → item.now ≡ cell
    → map (λ (c : Bor (Option Cell)). c.now) (cells ++ item ∷ []) ≡ column_of property (take (k + 1) rows)
column_more property k rows cells row cell item so h is read same =
    let f : Bor (Option Cell) → Option Cell = λ c. c.now in
    let g : List (Option Cell) → Option Cell = λ r. cell_at r (Some property) in
    let last : item.now ≡ g (get_or rows k row) = same ∙ sym (cell_at_is row property cell read) ∙ ap g is in
    map-append f cells (item ∷ []) ∙ ap (λ l. l ++ item.now ∷ []) so ∙ ap (λ x. map g (take k rows) ++ x ∷ []) last
    ∙ sym (ap (map g) (take_more rows k row h) ∙ map-append g (take k rows) (get_or rows k row ∷ []))

-- ---- the properties of a table

-- the first n properties are kept
pub record AreColumnsBelow (n : ℕ) (fields : List Field) (cells : ℕ → List (Option Cell)) (properties : List Encoded) : Type 0 where
  pub len : length properties ≡ n
  pub each : (property : ℕ) (d : Encoded) → property < n → IsPropertyOf fields cells property (get_or properties property d)

pub no_columns : (fields : List Field) (cells : ℕ → List (Option Cell)) → AreColumnsBelow 0 fields cells []
no_columns fields cells = record { len = refl; each = λ property d h. absurd (omega arith) }

-- a property that has the cells, and the kind of its field
pub property_kept : (fields : List Field) (cells : ℕ → List (Option Cell)) (property : ℕ) (p : Encoded) (field : Field) → field ≡ get_or fields property field → property < length fields
    → decoded p ≡ cells property → p.kind ≡ field.kind → IsPropertyOf fields cells property p
property_kept fields cells property p field is within same kind = record {
  cells_are = same;
  kind_is = subst (λ (o : Option Field). IfSome o (λ (f : Field). p.kind ≡ f.kind)) (sym (slice_get-get_or fields property field within)) (kind ∙ ap (λ (f : Field). f.kind) is);
}

pub columns_more : (n : ℕ) (fields : List Field) (cells : ℕ → List (Option Cell)) (properties : List Encoded) (next : Encoded) → AreColumnsBelow n fields cells properties → IsPropertyOf fields cells n next
    → AreColumnsBelow (n + 1) fields cells (properties ++ next ∷ [])
columns_more n fields cells properties next s here = record {
  len = (let had : length properties ≡ n = s.len in omega (arith, length_push properties next));
  each = λ property d h. elim (cases_lt property n) [
    | inl before ↦
        (let had : length properties ≡ n = s.len in
        let is : get_or (properties ++ next ∷ []) property d ≡ get_or properties property d = get_or_append_left properties (next ∷ []) d property (omega arith) in
        subst (λ (e : Encoded). IsPropertyOf fields cells property e) (sym is) (s.each property d before))
    | inr last ↦
        (let had : length properties ≡ n = s.len in
        let same : property ≡ n = omega arith in
        let plus : n ≡ length properties + 0 = omega arith in
        let is : get_or (properties ++ next ∷ []) n d ≡ next = ap (λ j. get_or (properties ++ next ∷ []) j d) plus ∙ get_or-append-add properties (next ∷ []) 0 d in
        rw (same, is) here)
  ];
}

-- the cells of a property are of its kind
pub kinds : (fields : List Field) (rows : List (List (Option Cell))) (property : ℕ) (field : Field) (cells : List (Option Cell)) → list_all (fits_fields fields) rows ≡ true → property < length fields
    → field ≡ get_or fields property field → cells ≡ column_of property rows → All (λ c. is_of_kind field.kind c ≡ true) cells
kinds fields rows property field cells fit within is told = λ row d h.
    let g : List (Option Cell) → Option Cell = λ r. cell_at r (Some property) in
    let low : row < length rows = omega (arith, h, ap length told, length-map rows g) in
    let z = zip-at is_cell_of fields (get_or rows row []) property (all-at (fits_fields fields) rows row [] fit low) within in
    let left : z.left ≡ field = some_same (sym z.left_is ∙ slice_get-get_or fields property field within) ∙ sym is in
    let cell : get_or cells row d ≡ z.right = ap (λ l. get_or l row d) told ∙ get_or-map g rows row [] d low ∙ cell_at_is (get_or rows row []) property z.right z.right_is in
    ap (λ c. is_of_kind field.kind c) cell ∙ ap (λ (t : Field). is_of_kind t.kind z.right) (sym left) ∙ z.passes
  where
    some_same : {a b : Field} → Some a ≡ Some b → a ≡ b
    some_same e = cc e

-- those of relationships, place by place
module _ (fields : List Field) (rels : List PlainRel) (property : ℕ) (fit : list_all (λ (r : PlainRel). fits_fields fields r.cells) rels ≡ true) (within : property < length fields) where
  pub rels_reach : All (λ (r : PlainRel). property < length r.cells) rels
  rels_reach = λ k d h. (let size : length fields ≡ length (get_or rels k d).cells = zip-length is_cell_of fields (get_or rels k d).cells (all-at (λ (r : PlainRel). fits_fields fields r.cells) rels k d fit h) in omega (arith, size, within))

  numbered_kind : (field : Field) → field ≡ get_or fields property field → (number : Option ℕ) → IfSome number (λ n. n < length rels) → is_of_kind field.kind (cell_numbered property rels number) ≡ true
  numbered_kind field is None h = refl
  numbered_kind field is (Some n) h =
      let none : PlainRel = record { source = 0; target = 0; cells = [] } in
      let found : PlainRel = get_or rels n none in
      let z = zip-at is_cell_of fields found.cells property (all-at (λ (r : PlainRel). fits_fields fields r.cells) rels n none fit h) within in
      let left : z.left ≡ field = some_same (sym z.left_is ∙ slice_get-get_or fields property field within) ∙ sym is in
      let cell : cell_numbered property rels (Some n) ≡ z.right = ap (rel_cell_in property) (slice_get-get_or rels n none h) ∙ cell_at_is found.cells property z.right z.right_is in
      ap (λ c. is_of_kind field.kind c) cell ∙ ap (λ (t : Field). is_of_kind t.kind z.right) (sym left) ∙ z.passes
    where
      some_same : {a b : Field} → Some a ≡ Some b → a ≡ b
      some_same e = cc e

  pub numbered_kinds : (field : Field) (numbers : List (Option ℕ)) (cells : List (Option Cell)) → field ≡ get_or fields property field → All (λ number. IfSome number (λ n. n < length rels)) numbers
      → cells ≡ map (λ number. cell_numbered property rels number) numbers → All (λ c. is_of_kind field.kind c ≡ true) cells
  numbered_kinds field numbers cells is there told = λ row d h.
      let f : Option ℕ → Option Cell = λ number. cell_numbered property rels number in
      let low : row < length numbers = omega (arith, h, ap length told, length-map numbers f) in
      let cell : get_or cells row d ≡ f (get_or numbers row None) = ap (λ l. get_or l row d) told ∙ get_or-map f numbers row None d low in
      ap (λ c. is_of_kind field.kind c) cell ∙ numbered_kind field is (get_or numbers row None) (there row None low)

pub rows_reach : (fields : List Field) (rows : List (List (Option Cell))) (property : ℕ) → list_all (fits_fields fields) rows ≡ true → property < length fields → All (λ (row : List (Option Cell)). property < length row) rows
rows_reach fields rows property fit within = λ row d h. (let size : length (get_or rows row d) ≡ length fields = row_length fields rows row d fit h in omega (arith, size, within))

-- ---- tables

-- the cells of the first n tables are kept
pub record AreTablesBelow (n : ℕ) (count : ℕ → ℕ) (fields : ℕ → List Field) (cells : ℕ → ℕ → List (Option Cell)) (all : List TableCells) : Type 0 where
  pub len : length all ≡ n
  pub each : (table : ℕ) (d : TableCells) → table < n → AreTableCells (count table) (fields table) (cells table) (get_or all table d)

module _ (count : ℕ → ℕ) (fields : ℕ → List Field) (cells : ℕ → ℕ → List (Option Cell)) where
  pub no_tables : AreTablesBelow 0 count fields cells []
  no_tables = record { len = refl; each = λ table d h. absurd (omega arith) }

  pub tables_more : (n : ℕ) (all : List TableCells) (next : TableCells) → AreTablesBelow n count fields cells all → AreTableCells (count n) (fields n) (cells n) next
      → AreTablesBelow (n + 1) count fields cells (all ++ next ∷ [])
  tables_more n all next s here = record {
    len = (let had : length all ≡ n = s.len in omega (arith, length_push all next));
    each = λ table d h. pushed (λ k one. AreTableCells (count k) (fields k) (cells k) one) n all next s.len s.each here table d h;
  }

-- the first n node tables
abbrev pub AreNodesBelow : ℕ → Graph → List TableCells → Type 0
AreNodesBelow n g all = AreTablesBelow n (λ table. row_count g.nodes table) (λ table. node_fields g table) (λ table property. node_cells g table property) all

pub all_nodes_kept : (n : ℕ) (g : Graph) (all : List TableCells) → n ≡ length g.catalog.nodes → AreNodesBelow n g all → AreNodesKept g all
all_nodes_kept n g all whole s = record { len = s.len ∙ whole; each = λ table d h. s.each table d (let had : length all ≡ n = s.len in omega arith) }

-- the first n relationship tables
abbrev pub AreRelsBelow : ℕ → Graph → List TableCells → Type 0
AreRelsBelow n g all = AreTablesBelow n (λ rel. length (rels_at g rel)) (λ rel. rel_fields g rel) (λ rel property. rel_cells g rel property) all

pub all_rels_kept : (n : ℕ) (g : Graph) (all : List TableCells) → n ≡ length g.catalog.rels → AreRelsBelow n g all → AreRelsKept g all
all_rels_kept n g all whole s = record { len = s.len ∙ whole; each = λ rel d h. s.each rel d (let had : length all ≡ n = s.len in omega arith) }

of_fields : (fields others : List Field) (property : ℕ) (p : Encoded) → fields ≡ others → IfSome (slice_get fields property) (λ (f : Field). p.kind ≡ f.kind) → IfSome (slice_get others property) (λ (f : Field). p.kind ≡ f.kind)
of_fields fields others property p are is = subst (λ (l : List Field). IfSome (slice_get l property) (λ (f : Field). p.kind ≡ f.kind)) are is

-- what is kept of rows and relationships is kept of the graph that has them
pub node_cells_are : (g : Graph) (table : ℕ) (rows : List (List (Option Cell))) (fields : List Field) (next : TableCells) → slice_get g.nodes table ≡ Some rows → fields ≡ node_fields g table
    → AreTableCells (length rows) fields (λ property. column_of property rows) next → AreTableCells (row_count g.nodes table) (node_fields g table) (λ property. node_cells g table property) next
node_cells_are g table rows fields next is are s =
    let same : rows ≡ rows_of (slice_get g.nodes table) = sym (ap rows_of is) in
    record {
      rows_are = s.rows_are ∙ ap length same;
      len = s.len ∙ ap length are;
      each = λ property d h.
          let at = s.each property d (omega (arith, h, ap length are)) in
          record { cells_are = at.cells_are ∙ ap (λ r. column_of property r) same; kind_is = of_fields fields (node_fields g table) property (get_or next.properties.items property d) are at.kind_is };
    }

pub rel_cells_are : (g : Graph) (rel : ℕ) (rels : List PlainRel) (fields : List Field) (numbers : List (Option ℕ)) (next : TableCells) → slice_get g.rels rel ≡ Some rels → fields ≡ rel_fields g rel → numbers ≡ numbers_by_place g rel
    → AreTableCells (length rels) fields (λ property. map (λ number. cell_numbered property rels number) numbers) next → AreTableCells (length (rels_at g rel)) (rel_fields g rel) (λ property. rel_cells g rel property) next
rel_cells_are g rel rels fields numbers next is are told s =
    let same : rels ≡ rels_at g rel = sym (ap all_of is) in
    record {
      rows_are = s.rows_are ∙ ap length same;
      len = s.len ∙ ap length are;
      each = λ property d h.
          let at = s.each property d (omega (arith, h, ap length are)) in
          record {
            cells_are = at.cells_are ∙ ap (λ (r : List PlainRel). map (λ number. cell_numbered property r number) numbers) same ∙ ap (λ l. map (λ number. cell_numbered property (rels_at g rel) number) l) told;
            kind_is = of_fields fields (rel_fields g rel) property (get_or next.properties.items property d) are at.kind_is;
          };
    }

all_fit : (fields : List Field) (n m : ℕ) (rels : List PlainRel) → list_all (is_rel fields n m) rels ≡ true → list_all (λ (r : PlainRel). fits_fields fields r.cells) rels ≡ true
all_fit fields n m [] h = refl
all_fit fields n m (r ∷ rels) h =
    let a = two (is_rel fields n m r) (list_all (is_rel fields n m) rels) h in
    let b = two (nat_lt r.source n && nat_lt r.target m) (fits_fields fields r.cells) a.0 in
    rw (b.1, all_fit fields n m rels a.1) refl

-- the relationships of a table fit its fields
pub rels_fit : (g : Graph) (rel : ℕ) (rels : List PlainRel) (fields : List Field) → is_valid g ≡ true → rel < length g.catalog.rels → slice_get g.rels rel ≡ Some rels → fields ≡ rel_fields g rel
    → list_all (λ (r : PlainRel). fits_fields fields r.cells) rels ≡ true
rels_fit g rel rels fields valid within is are =
    let (t, found) = rel_table g rel valid within in
    let (others, k) = found in
    let same : others ≡ rels = rels_same (sym k.rels_is ∙ is) in
    let of : t.fields ≡ fields = sym (ap rel_fields_of k.table_is) ∙ sym are in
    subst (λ (fs : List Field). list_all (λ (r : PlainRel). fits_fields fs r.cells) rels ≡ true) of
    (subst (λ (rs : List PlainRel). list_all (λ (r : PlainRel). fits_fields t.fields r.cells) rs ≡ true) same (all_fit t.fields (row_count g.nodes t.from) (row_count g.nodes t.to) others k.fit))
  where
    rels_same : {x y : List PlainRel} → Some x ≡ Some y → x ≡ y
    rels_same e = cc e

-- the rows of a table fit its fields
pub nodes_fit : (g : Graph) (table : ℕ) (rows : List (List (Option Cell))) (fields : List Field) → is_valid g ≡ true → table < length g.catalog.nodes → slice_get g.nodes table ≡ Some rows → fields ≡ node_fields g table
    → list_all (fits_fields fields) rows ≡ true
nodes_fit g table rows fields valid within is are =
    let (t, found) = node_table g table valid within in
    let (others, k) = found in
    let same : others ≡ rows = rows_same (sym k.rows_are ∙ is) in
    let of : t.fields ≡ fields = sym (ap node_fields_of k.table_is) ∙ sym are in
    subst (λ (fs : List Field). list_all (fits_fields fs) rows ≡ true) of (subst (λ (rs : List (List (Option Cell))). list_all (fits_fields t.fields) rs ≡ true) same k.fit)
  where
    rows_same : {x y : List (List (Option Cell))} → Some x ≡ Some y → x ≡ y
    rows_same e = cc e

-- ---- tables whose rows are dropped

-- from table n on, the rows are as they were
pub record AreRest {A : Type 0} (n : ℕ) (old new : List A) : Type 0 where
  pub len : length new ≡ length old
  pub each : (table : ℕ) → n ≤ table → slice_get new table ≡ slice_get old table

pub all_rest : {A : Type 0} (rows : List A) → AreRest 0 rows rows
all_rest rows = record { len = refl; each = λ table h. refl }

other_stays : {A : Type 0} (rows : List A) (n table : ℕ) (a : A) → table ≢ n → slice_get (set rows n a) table ≡ slice_get rows table
other_stays [] n table a other = refl
other_stays (x ∷ xs) zero zero a other = absurd (other refl)
other_stays (x ∷ xs) zero (suc table) a other = refl
other_stays (x ∷ xs) (suc n) zero a other = refl
other_stays (x ∷ xs) (suc n) (suc table) a other = other_stays xs n table a (λ same. other (ap suc same))

pub rest_less : {A : Type 0} (n : ℕ) (old new : List A) (a : A) → AreRest n old new → AreRest (n + 1) old (set new n a)
rest_less n old new a s = record {
  len = length-set new n a ∙ s.len;
  each = λ table h. other_stays new n table a (λ same. omega (arith, h, same)) ∙ s.each table (omega (arith, h));
}

-- ---- reading

-- a cell of a column that is kept is the cell of the node
pub column_at : (g : Graph) (table property row : ℕ) → row < length (rows_of (slice_get g.nodes table)) → get_or (column_of property (rows_of (slice_get g.nodes table))) row None ≡ node_cell g table property row
column_at g table property row h =
    let rows = rows_of (slice_get g.nodes table) in
    let at : slice_get rows row ≡ Some (get_or rows row []) = slice_get-get_or rows row [] h in
    get_or-map (λ r. cell_at r (Some property)) rows row [] None h ∙ rw at refl

-- the properties of a table that is kept
module _ (count : ℕ) (fields : List Field) (cells : ℕ → List (Option Cell)) (kept : TableCells) (property : ℕ) (s : AreTableCells count fields cells kept) (within : property < length fields) where
  pub property_reach : property < length kept.properties.items
  property_reach = omega (arith, s.len, within)

  pub property_at : (p : Encoded) → p ≡ get_or kept.properties.items property p → IsPropertyOf fields cells property p
  property_at p read = subst (λ (e : Encoded). IsPropertyOf fields cells property e) (sym read) (s.each property p within)

-- a table that is kept
pub node_table_at : (g : Graph) (all : List TableCells) (table : ℕ) (kept : TableCells) → AreNodesKept g all → table < length all → kept ≡ get_or all table kept
    → AreTableCells (row_count g.nodes table) (node_fields g table) (λ property. node_cells g table property) kept
node_table_at g all table kept s low read = subst (AreTableCells (row_count g.nodes table) (node_fields g table) (λ property. node_cells g table property)) (sym read) (s.each table kept low)

pub rel_table_at : (g : Graph) (all : List TableCells) (rel : ℕ) (kept : TableCells) → AreRelsKept g all → rel < length all → kept ≡ get_or all rel kept
    → AreTableCells (length (rels_at g rel)) (rel_fields g rel) (λ property. rel_cells g rel property) kept
rel_table_at g all rel kept s low read = subst (AreTableCells (length (rels_at g rel)) (rel_fields g rel) (λ property. rel_cells g rel property)) (sym read) (s.each rel kept low)

-- a property of a table that is kept
pub node_property_at : (of g : Graph) (all : List TableCells) (table property : ℕ) (kept : TableCells) (p : Encoded) → AreNodesKept of all → of ≡ g → table < length g.catalog.nodes
    → kept ≡ get_or all table kept → property < length (node_fields g table) → p ≡ get_or kept.properties.items property p → IsPropertyOf (node_fields g table) (λ property. node_cells g table property) property p
node_property_at of g all table property kept p s view within kept_is inside is =
    let at : AreNodesKept g all = subst (λ (q : Graph). AreNodesKept q all) view s in
    property_at _ _ _ kept property (node_table_at g all table kept at (omega (arith, at.len, within)) kept_is) inside p is

pub rel_property_at : (of g : Graph) (all : List TableCells) (rel property : ℕ) (kept : TableCells) (p : Encoded) → AreRelsKept of all → of ≡ g → rel < length g.catalog.rels
    → kept ≡ get_or all rel kept → property < length (rel_fields g rel) → p ≡ get_or kept.properties.items property p → IsPropertyOf (rel_fields g rel) (λ property. rel_cells g rel property) property p
rel_property_at of g all rel property kept p s view within kept_is inside is =
    let at : AreRelsKept g all = subst (λ (q : Graph). AreRelsKept q all) view s in
    property_at _ _ _ kept property (rel_table_at g all rel kept at (omega (arith, at.len, within)) kept_is) inside p is

-- the cell of a node, where its property's cells are these
pub node_cell_of : (g : Graph) (table property row : ℕ) (cells : List (Option Cell)) → cells ≡ node_cells g table property → row < row_count g.nodes table → (row < length cells) × (get_or cells row None ≡ node_cell g table property row)
node_cell_of g table property row cells are h =
    let size : length (node_cells g table property) ≡ row_count g.nodes table = length-map (rows_of (slice_get g.nodes table)) (λ r. cell_at r (Some property)) in
    (omega (arith, h, size, ap length are), ap (λ (l : List (Option Cell)). get_or l row None) are ∙ column_at g table property row h)
