-- What holds of each table that is taken, whatever its file: its rows fit its fields, its keys are
-- distinct, and its ends and multiplicity are kept.
use Rattle.std.proofs.Common.{◌≡◌, ℕ, ◌+◌, ◌<◌, Bool, true, false, List, [], ◌∷◌, ◌++◌, length, map}
use Rattle.gq_base.proofs.ResultLaws.{then_ok}
use Rattle.std.proofs.Common.{Some, None, Ok, Err, refl, sym, ap, subst, ◌∙◌, arith}
use Rattle.std.specs.Prelude.{if◌then◌else◌, ◌==◌, ◌&&◌, ◌||◌, not, nat_le, nat_lt, option_map}
use Rattle.std.specs.Option.{ok_or}
use Rattle.std.specs.List.{list_all, list_any}
use Rattle.std.specs.declared.option.Option.{Option}
use Rattle.std.specs.declared.result.Result.{Result}
use Rattle.std.proofs.lemmas.Bool.Decides.{nat_tests}
use Rattle.gq_base.proofs.ListLaws.{distinct-more, two}
use Rattle.gq_base.specs.Lists.{all_distinct, each, with_first}
use Rattle.gq_base.specs.Valid.{are_unique, fits_fields, is_of_kind, is_rel, key_of}
use Rattle.gq_base.specs.Valid.{limits_sources, limits_targets, once_if, same_key}
use Rattle.gq_base.specs.Values.{Val}
use Rattle.gq_base.specs.declared.catalog.Field.{Field}
use Rattle.gq_base.specs.declared.catalog.Kind.{Kind}
use Rattle.gq_base.specs.declared.catalog.Kind.TheVariants as kind
use Rattle.gq_base.specs.declared.catalog.Mult.{Mult}
use Rattle.gq_base.specs.declared.cell.Cell.{Cell}
use Rattle.gq_base.specs.declared.cell.Cell.TheVariants as cell
use Rattle.gq_base.specs.declared.cell.PlainRel.{PlainRel}
use Rattle.gq_base.specs.Words.{text_of}
use Rattle.gq_fields.specs.Fields.{cell_of, flag_of, int_of}
use Rattle.gq_fields.specs.Headers.{Header, bad, header_of, named, too_many}
use Rattle.gq_fields.specs.declared.header.FileKind.TheVariants as file
use Rattle.gq_tables.proofs.HeaderSteps.{first_some, good_fields, length-nodes, length-rels}
use Rattle.gq_tables.proofs.RelSteps.{rel_within}
use Rattle.gq_tables.specs.Cells.{Cells, fitting, read_cell, read_cells, under_header}
use Rattle.gq_tables.specs.Keys.{has_key, is_key}
use Rattle.gq_tables.specs.Nodes.{add_node, is_taken, node_of, node_table, read_key, read_node}
use Rattle.gq_tables.specs.Nodes.{take_node, take_nodes}
use Rattle.gq_tables.specs.Rels.{KeyTable, add_rel, has_source, has_target, is_forbidden, read_end}
use Rattle.gq_tables.specs.Rels.{read_rel, rel_of, rel_table, take_rel, take_rels}
use Rattle.gq_tables.specs.Tables.{IsNodeTable, IsRelTable}
use Rattle.gq_tables.specs.declared.nodes.NodeTableRows.{NodeTableRows}
use Rattle.gq_tables.specs.declared.refusal.TableRefusal.{TableRefusal}
use Rattle.gq_tables.specs.declared.refusal.TableRefusal.TheVariants as refusal
use Rattle.gq_tables.specs.declared.rels.RelTableRows.{RelTableRows}

-- ---- lists and answers

both : (a b : Bool) → a ≡ true → b ≡ true → (a && b) ≡ true
both a b p q = rw (p, q) refl

all-snoc : {A : Type 0} (p : A → Bool) (xs : List A) (x : A) → list_all p xs ≡ true → p x ≡ true
    → list_all p (xs ++ x ∷ []) ≡ true
all-snoc p [] x h e = rw e refl
all-snoc p (y ∷ xs) x h e = let q = two (p y) (list_all p xs) h in both (p y) (list_all p (xs ++ x ∷ [])) q.0 (all-snoc p xs x q.1 e)

ok_some : {A : Type 0} (o : Option A) (e : TableRefusal) (x : A) → ok_or o e ≡ Ok x → o ≡ Some x
ok_some (Some y) e x h = cc h
ok_some None e x h = cc h

ok_unless : {A : Type 0} (b : Bool) (e : TableRefusal) (r : Result A TableRefusal) (x : A)
    → (if b then Err e else r) ≡ Ok x → (b ≡ false) × (r ≡ Ok x)
ok_unless true e r x h = cc h
ok_unless false e r x h = (refl, h)

-- ---- cells

mapped_kind : {A : Type 0} (k : Kind) (make : A → Cell) (o : Option A) (c : Option Cell)
    → ((x : A) → is_of_kind k (Some (make x)) ≡ true) → option_map (λ x. Some (make x)) o ≡ Some c
    → is_of_kind k c ≡ true
mapped_kind k make None c h e = cc e
mapped_kind k make (Some x) c h e = let same : Some (make x) ≡ c = cc e in ap (is_of_kind k) (sym same) ∙ h x

cell_kind : (k : Kind) (text : List ℕ) (c : Option Cell) → cell_of k text ≡ Some c
    → is_of_kind k c ≡ true
cell_kind k [] c e = let same : None ≡ c = cc e in ap (is_of_kind k) (sym same)
cell_kind kind.Int (b ∷ bs) c e = mapped_kind kind.Int cell.Int (int_of (b ∷ bs)) c (λ x. refl) e
cell_kind kind.Str (b ∷ bs) c e = mapped_kind kind.Str cell.Str (text_of (b ∷ bs)) c (λ x. refl) e
cell_kind kind.Flag (b ∷ bs) c e = mapped_kind kind.Flag cell.Flag (flag_of (b ∷ bs)) c (λ x. refl) e

read_kind : (number column : ℕ) (k : Kind) (text : List ℕ) (c : Option Cell)
    → read_cell number column k text ≡ Ok c → is_of_kind k c ≡ true
read_kind number column k text c e = cell_kind k text c (ok_some (cell_of k text) (refusal.BadField number column) c e)

cells_fit : (number column : ℕ) (fields : List Field) (texts : List (List ℕ)) (cells : Cells)
    → length texts ≡ length fields → read_cells number column fields texts ≡ Ok cells
    → fits_fields fields cells ≡ true
cells_fit number column [] texts cells wide e = let none : [] ≡ cells = cc e in ap (fits_fields []) (sym none)
cells_fit number column (field ∷ fields) [] cells wide e = absurd (omega arith)
cells_fit number column (field ∷ fields) (text ∷ texts) cells wide e =
    let a = then_ok (read_cell number column field.kind text) _ cells e in
    let b = then_ok (read_cells number (column + 1) fields texts) _ cells a.2 in
    let is : a.0 ∷ b.0 ≡ cells = cc b.2 in
    let narrow : length texts ≡ length fields = omega arith in
    ap (fits_fields (field ∷ fields)) (sym is)
    ∙ both (is_of_kind field.kind a.0) (fits_fields fields b.0) (read_kind number column field.kind text a.0 a.1) (cells_fit number (column + 1) fields texts b.0 narrow b.1)

-- ---- rows

-- a row fits its fields, and has a key
record IsRow (fields : List Field) (row : Cells) : Type 0 where
  fits : fits_fields fields row ≡ true
  key : Val
  has : key_of row ≡ Some key

node_row : (number : ℕ) (fields : List Field) (texts : List (List ℕ)) (row : Cells)
    → length texts ≡ length fields → node_of number fields texts ≡ Ok row → IsRow fields row
node_row number [] texts row wide e = cc
node_row number (field ∷ fields) [] row wide e = cc
node_row number (field ∷ fields) (text ∷ texts) row wide e =
    let a = then_ok (read_key number field.kind text) _ row e in
    let k = then_ok (read_cell number 1 field.kind text) (λ c. ok_or c (refusal.NullKey number)) a.0 a.1 in
    let b = then_ok (read_cells number 2 fields texts) _ row a.2 in
    let some : k.0 ≡ Some a.0 = ok_some k.0 (refusal.NullKey number) a.0 k.2 in
    let is : Some a.0 ∷ b.0 ≡ row = cc b.2 in
    let narrow : length texts ≡ length fields = omega arith in
    let kind : is_of_kind field.kind (Some a.0) ≡ true = ap (is_of_kind field.kind) (sym some) ∙ read_kind number 1 field.kind text k.0 k.1 in
    record {
      fits = ap (fits_fields (field ∷ fields)) (sym is) ∙ both (is_of_kind field.kind (Some a.0)) (fits_fields fields b.0) kind (cells_fit number 2 fields texts b.0 narrow b.1);
      key = _;
      has = ap key_of (sym is);
    }

first_more : {B : Type 0} (a : Option B) (o all : Option (List B)) (ys : List B) (y : B)
    → with_first a o ≡ Some ys → ((rest : List B) → o ≡ Some rest → all ≡ Some (rest ++ y ∷ []))
    → with_first a all ≡ Some (ys ++ y ∷ [])
first_more (Some x) (Some rest) all ys y h next = let is : x ∷ rest ≡ ys = cc h in rw (next rest refl, ← is) refl
first_more (Some x) None all ys y h next = cc h
first_more None o all ys y h next = cc h

each-snoc : {A B : Type 0} (f : A → Option B) (xs : List A) (x : A) (ys : List B) (y : B)
    → each f xs ≡ Some ys → f x ≡ Some y → each f (xs ++ x ∷ []) ≡ Some (ys ++ y ∷ [])
each-snoc f [] x ys y h e = let none : [] ≡ ys = cc h in rw (e, ← none) refl
each-snoc f (z ∷ xs) x ys y h e = first_more (f z) (each f xs) (each f (xs ++ x ∷ [])) ys y h (λ rest k. each-snoc f xs x rest y k e)

any_key : (rows : List Cells) (keys : List Val) (v : Val) → each key_of rows ≡ Some keys
    → list_any (has_key v) rows ≡ list_any (λ k. same_key k v) keys
any_key [] keys v e = let none : [] ≡ keys = cc e in ap (list_any (λ k. same_key k v)) none
any_key (row ∷ rows) keys v e =
    let p = first_some (key_of row) (each key_of rows) keys e in
    rw (any_key rows p.1 v p.2) (ap (λ o. is_key v o || list_any (λ k. same_key k v) p.1) p.4) ∙ ap (list_any (λ k. same_key k v)) (sym p.3)

-- rows that fit, with distinct keys
record AreRows (fields : List Field) (rows : List Cells) : Type 0 where
  fit : list_all (fits_fields fields) rows ≡ true
  keys : List Val
  given : each key_of rows ≡ Some keys
  distinct : all_distinct same_key keys ≡ true

no_rows : (fields : List Field) → AreRows fields []
no_rows fields = record { fit = refl; keys = []; given = refl; distinct = refl }

row_more : (fields : List Field) (rows : List Cells) (row : Cells) → AreRows fields rows
    → IsRow fields row → is_taken rows (key_of row) ≡ false → AreRows fields (rows ++ row ∷ [])
row_more fields rows row h r free =
    let fresh : list_any (λ k. same_key k r.key) h.keys ≡ false = sym (any_key rows h.keys r.key h.given) ∙ sym (ap (is_taken rows) r.has) ∙ free in
    record {
      fit = all-snoc (fits_fields fields) rows row h.fit r.fits;
      keys = h.keys ++ r.key ∷ [];
      given = each-snoc key_of rows row h.keys r.key h.given r.has;
      distinct = distinct-more same_key h.keys r.key h.distinct fresh;
    }

fitting_ok : (limit width number count : ℕ) (texts t : List (List ℕ))
    → fitting limit width number count texts ≡ Ok t → (texts ≡ t) × (length t ≡ width)
fitting_ok limit width number count texts t e =
    let a = ok_unless (nat_le limit count) refusal.TooManyRows (if not (length texts == width) then Err (refusal.FieldCount number) else Ok texts) t e in
    let b = ok_unless (not (length texts == width)) (refusal.FieldCount number) (Ok texts) t a.1 in
    let same : texts ≡ t = cc b.1 in
    let size : length texts ≡ width = grind (arith, nat_tests, b.0) in
    (same, ap length (sym same) ∙ size)

module _ (limit width : ℕ) (fields : List Field) (wide : width ≡ length fields) where
  nodes_fit : (number : ℕ) (rows all : List Cells) (records : List (List (List ℕ)))
      → AreRows fields rows → take_nodes limit width fields number rows records ≡ Ok all
      → AreRows fields all
  nodes_fit number rows all [] h e = let same : rows ≡ all = cc e in subst (AreRows fields) same h
  nodes_fit number rows all (texts ∷ records) h e =
      let step = then_ok (take_node limit width fields number rows texts) _ all e in
      let read = then_ok (read_node limit width fields number (length rows) texts) (add_node number rows) step.0 step.1 in
      let form = then_ok (fitting limit width number (length rows) texts) (node_of number fields) read.0 read.1 in
      let size = fitting_ok limit width number (length rows) texts form.0 form.1 in
      let row = node_row number fields form.0 read.0 (size.1 ∙ wide) form.2 in
      let new = ok_unless (is_taken rows (key_of read.0)) (refusal.KeyRepeated number) (Ok (rows ++ read.0 ∷ [])) step.0 read.2 in
      let is : rows ++ read.0 ∷ [] ≡ step.0 = cc new.1 in
      nodes_fit (number + 1) step.0 all records (subst (AreRows fields) is (row_more fields rows read.0 h row new.0)) step.2

-- ---- relationships

-- relationships between rows of their tables, that fit and that the multiplicity allows
record AreRels (sources targets : ℕ) (mult : Mult) (fields : List Field) (rels : List PlainRel) : Type 0 where
  fit : list_all (is_rel fields sources targets) rels ≡ true
  source : once_if (limits_sources mult) (map (λ r. r.source) rels) ≡ true
  target : once_if (limits_targets mult) (map (λ r. r.target) rels) ≡ true

once_none : (b : Bool) → once_if b [] ≡ true
once_none true = refl
once_none false = refl

no_rels : (sources targets : ℕ) (mult : Mult) (fields : List Field)
    → AreRels sources targets mult fields []
no_rels sources targets mult fields = record { fit = refl; source = once_none (limits_sources mult); target = once_none (limits_targets mult) }

any-map : (f : PlainRel → ℕ) (xs : List PlainRel) (x : ℕ)
    → list_any (λ y. y == x) (map f xs) ≡ list_any (λ r. f r == x) xs
any-map f [] x = refl
any-map f (r ∷ xs) x = ap (λ b. (f r == x) || b) (any-map f xs x)

map-snoc : (f : PlainRel → ℕ) (xs : List PlainRel) (x : PlainRel)
    → map f (xs ++ x ∷ []) ≡ map f xs ++ f x ∷ []
map-snoc f [] x = refl
map-snoc f (r ∷ xs) x = ap (λ l. f r ∷ l) (map-snoc f xs x)

once_more : (b : Bool) (f : PlainRel → ℕ) (rels : List PlainRel) (rel : PlainRel)
    → once_if b (map f rels) ≡ true → (b && list_any (λ r. f r == f rel) rels) ≡ false
    → once_if b (map f (rels ++ rel ∷ [])) ≡ true
once_more true f rels rel h free = ap (all_distinct (λ a b. a == b)) (map-snoc f rels rel) ∙ distinct-more (λ a b. a == b) (map f rels) (f rel) h (any-map f rels (f rel) ∙ free)
once_more false f rels rel h free = refl

rel_fits : (number : ℕ) (sources targets : KeyTable) (fields : List Field) (texts : List (List ℕ)) (rel : PlainRel) → length texts ≡ length fields + 2 → rel_of number sources targets fields texts ≡ Ok rel
    → fits_fields fields rel.cells ≡ true
rel_fits number sources targets fields [] rel wide e = cc
rel_fits number sources targets fields (from ∷ []) rel wide e = cc
rel_fits number sources targets fields (from ∷ to ∷ texts) rel wide e =
    let a = then_ok (read_end number 1 sources from) _ rel e in
    let b = then_ok (read_end number 2 targets to) _ rel a.2 in
    let c = then_ok (read_cells number 3 fields texts) _ rel b.2 in
    let is : record { source = a.0; target = b.0; cells = c.0 } ≡ rel = cc c.2 in
    let narrow : length texts ≡ length fields = omega arith in
    rw (← is) (cells_fit number 3 fields texts c.0 narrow c.1)

less : (m n : ℕ) → m < n → nat_lt m n ≡ true
less m n h = grind (arith, nat_tests)

rel_good : (number : ℕ) (sources targets : KeyTable) (fields : List Field) (texts : List (List ℕ)) (rel : PlainRel) → length texts ≡ length fields + 2 → rel_of number sources targets fields texts ≡ Ok rel
    → is_rel fields (length sources.rows) (length targets.rows) rel ≡ true
rel_good number sources targets fields texts rel wide e =
    let within = rel_within number sources targets fields texts rel e in
    rw (less rel.source (length sources.rows) within.source, less rel.target (length targets.rows) within.target) (rel_fits number sources targets fields texts rel wide e)

neither : (a b : Bool) → (a || b) ≡ false → (a ≡ false) × (b ≡ false)
neither true b e = cc e
neither false b e = (refl, e)

module _ (sources targets : KeyTable) (limit width : ℕ) (fields : List Field) (wide : width ≡ length fields + 2) (mult : Mult) where
  rels_fit : (number : ℕ) (rels all : List PlainRel) (records : List (List (List ℕ)))
      → AreRels (length sources.rows) (length targets.rows) mult fields rels
      → take_rels sources targets limit width fields mult number rels records ≡ Ok all
      → AreRels (length sources.rows) (length targets.rows) mult fields all
  rels_fit number rels all [] h e = let same : rels ≡ all = cc e in subst (AreRels (length sources.rows) (length targets.rows) mult fields) same h
  rels_fit number rels all (texts ∷ records) h e =
      let step = then_ok (take_rel sources targets limit width fields mult number rels texts) _ all e in
      let read = then_ok (read_rel sources targets limit width fields number (length rels) texts) (add_rel mult number rels) step.0 step.1 in
      let form = then_ok (fitting limit width number (length rels) texts) (rel_of number sources targets fields) read.0 read.1 in
      let size = fitting_ok limit width number (length rels) texts form.0 form.1 in
      let good = rel_good number sources targets fields form.0 read.0 (size.1 ∙ wide) form.2 in
      let new = ok_unless (is_forbidden mult rels read.0) (refusal.NotSingle number) (Ok (rels ++ read.0 ∷ [])) step.0 read.2 in
      let is : rels ++ read.0 ∷ [] ≡ step.0 = cc new.1 in
      let free = neither (limits_sources mult && has_source rels read.0.source) (limits_targets mult && has_target rels read.0.target) new.0 in
      let more : AreRels (length sources.rows) (length targets.rows) mult fields (rels ++ read.0 ∷ []) = record {
        fit = all-snoc (is_rel fields (length sources.rows) (length targets.rows)) rels read.0 h.fit good;
        source = once_more (limits_sources mult) (λ r. r.source) rels read.0 h.source free.0;
        target = once_more (limits_targets mult) (λ r. r.target) rels read.0 h.target free.1;
      } in
      rels_fit (number + 1) step.0 all records (subst (AreRels (length sources.rows) (length targets.rows) mult fields) is more) step.2

-- ---- tables

under_ok : {A : Type 0} (h : Header) (next : List Field → Result A TableRefusal) (x : A)
    → under_header h next ≡ Ok x → (fields : List Field) × (h ≡ named fields) × (next fields ≡ Ok x)
under_ok bad next x e = cc
under_ok too_many next x e = cc
under_ok (named fields) next x e = (fields, refl, e)

pub node_table_good : (limit : ℕ) (records : List (List (List ℕ))) (table : NodeTableRows)
    → node_table limit records ≡ Ok table → IsNodeTable table
node_table_good limit [] table e = cc
node_table_good limit (header ∷ records) table e =
    let a = under_ok (header_of file.Nodes header) _ table e in
    let b = then_ok (take_nodes limit (length header) a.0 2 [] records) _ table a.2 in
    let is : record { fields = a.0; rows = b.0 } ≡ table = cc b.2 in
    let good = nodes_fit limit (length header) a.0 (length-nodes header a.0 a.1) 2 [] b.0 records (no_rows a.0) b.1 in
    subst IsNodeTable is record { fields = good_fields file.Nodes header a.0 a.1; rows = good.fit; keys = ap are_unique good.given ∙ good.distinct }

pub rel_table_good : (sources targets : KeyTable) (mult : Mult) (limit : ℕ) (records : List (List (List ℕ))) (table : RelTableRows) → rel_table sources targets mult limit records ≡ Ok table → IsRelTable sources targets mult table
rel_table_good sources targets mult limit [] table e = cc
rel_table_good sources targets mult limit (header ∷ records) table e =
    let a = under_ok (header_of file.Rels header) _ table e in
    let b = then_ok (take_rels sources targets limit (length header) a.0 mult 2 [] records) _ table a.2 in
    let is : record { fields = a.0; rels = b.0 } ≡ table = cc b.2 in
    let good = rels_fit sources targets limit (length header) a.0 (length-rels header a.0 a.1) mult 2 [] b.0 records (no_rels (length sources.rows) (length targets.rows) mult a.0) b.1 in
    subst (IsRelTable sources targets mult) is record {
      fields = good_fields file.Rels header a.0 a.1;
      rels = good.fit;
      kept = both (once_if (limits_sources mult) (map (λ r. r.source) b.0)) (once_if (limits_targets mult) (map (λ r. r.target) b.0)) good.source good.target;
    }
