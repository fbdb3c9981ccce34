-- In a valid graph an assignment that lies in an alternative fits the kinds that the alternative gives its variables.
use Rattle.std.proofs.Common.{◌≡◌, ℕ, zero, suc, true, nat_eq, Option, Some, None, List, [], ◌∷◌, map, slice_get, IsTrue, refl, sym, ap, subst, true≢false}
use Rattle.std.specs.List.{list_all}
use Rattle.std.specs.Option.{option_map}
use Rattle.std.proofs.lemmas.Bool.{eqb-true, and_parts}
use Rattle.gq_base.specs.Catalogs.{find_field}
use Rattle.gq_base.specs.Lists.{all_zip}
use Rattle.gq_base.specs.Plain.{Graph, cell_val, cell_at, property_of, flat}
use Rattle.gq_base.specs.Valid as valid
use Rattle.gq_base.specs.declared.Cell.{Cell}
use Rattle.gq_base.specs.declared.Cell.TheVariants as cell
use Rattle.gq_base.specs.declared.Field.{Field}
use Rattle.gq_base.specs.declared.Kind.{Kind}
use Rattle.gq_base.specs.declared.Kind.TheVariants as kind
use Rattle.gq_base.specs.declared.NodeId.{NodeId}
use Rattle.gq_base.specs.declared.NodeTable.{NodeTable}
use Rattle.gq_base.specs.declared.PlainRel.{PlainRel}
use Rattle.gq_base.specs.declared.RelId.{RelId}
use Rattle.gq_base.specs.declared.RelTable.{RelTable}
use Rattle.gq_expr.specs.Kinds.{kind_in, field_kind, kind_of, kind_at}
use Rattle.gq_expr.specs.Reading.{node_property, rel_property, property_at, get_in, node_cell, rel_cell}
use Rattle.gq_expr.specs.Safety.{IsOfKind}
use Rattle.gq_plan.specs.Allowed.{in_tables, rel_lies, rels_lie}
use Rattle.gq_plan.specs.Assignments.{Assignment}
use Rattle.gq_plan.specs.Soundness.{node_fields, rel_fields}
use Rattle.gq_plan.specs.declared.typed.TypedRel.{TypedRel}
use Rattle.gq_law_plans.specs.Safe.{LyingFitsKinds}
use Rattle.gq_law_plans.proofs.Ends.{zip_at, all_get}

-- ---- cells

-- a cell of a kind is a value of it
of_kind : (k : Kind) (c : Option Cell) → valid.is_of_kind k c ≡ true → IsOfKind (Some k) (cell_val c)
of_kind k None h = tt
of_kind kind.Int (Some (cell.Int z)) h = tt
of_kind kind.Int (Some (cell.Str s)) h = absurd (true≢false (sym h))
of_kind kind.Int (Some (cell.Flag b)) h = absurd (true≢false (sym h))
of_kind kind.Str (Some (cell.Int z)) h = absurd (true≢false (sym h))
of_kind kind.Str (Some (cell.Str s)) h = tt
of_kind kind.Str (Some (cell.Flag b)) h = absurd (true≢false (sym h))
of_kind kind.Flag (Some (cell.Int z)) h = absurd (true≢false (sym h))
of_kind kind.Flag (Some (cell.Str s)) h = absurd (true≢false (sym h))
of_kind kind.Flag (Some (cell.Flag b)) h = tt

-- in a row that fits fields, each property has the kind of its field
cell_held : (fields : List Field) (cells : List (Option Cell)) → valid.fits_fields fields cells ≡ true → (name : List ℕ)
    → IsOfKind (kind_in fields name) (cell_val (property_of fields name cells))
cell_held fields cells h name = at_place (find_field fields name)
  where
    at_place : (o : Option ℕ) → IsOfKind (kind_at fields o) (cell_val (cell_at cells o))
    at_place None = tt
    at_place (Some i) = go (slice_get cells i) refl
      where
        go : (o : Option (Option Cell)) → slice_get cells i ≡ o → IsOfKind (kind_of (slice_get fields i)) (cell_val (flat o))
        go None e = tt
        go (Some c) e =
            let f = zip_at valid.is_cell_of fields cells h i c e in
            subst (λ q. IsOfKind (kind_of q) (cell_val c)) (sym f.1) (of_kind f.0.kind c f.2)

-- ---- the properties of a graph's nodes and relationships

-- the rows of a valid graph are those of its tables
nodes_zip : (g : Graph) → IsTrue (valid.is_valid g) → all_zip valid.are_nodes g.catalog.nodes g.nodes ≡ true
nodes_zip g h = let parts = and_parts _ (all_zip (valid.are_rels g.nodes) g.catalog.rels g.rels) h in (and_parts _ (all_zip valid.are_nodes g.catalog.nodes g.nodes) parts.0).1

rels_zip : (g : Graph) → IsTrue (valid.is_valid g) → all_zip (valid.are_rels g.nodes) g.catalog.rels g.rels ≡ true
rels_zip g h = (and_parts _ (all_zip (valid.are_rels g.nodes) g.catalog.rels g.rels) h).1

module _ (g : Graph) (real : IsTrue (valid.is_valid g)) (name : List ℕ) where
  node_held : (m : NodeId) → IsOfKind (kind_in (node_fields (slice_get g.catalog.nodes m.table)) name) (node_property g m name)
  node_held m = go (slice_get g.catalog.nodes m.table) refl (slice_get g.nodes m.table) refl
    where
      go : (k : Option NodeTable) → slice_get g.catalog.nodes m.table ≡ k → (rows : Option (List (List (Option Cell)))) → slice_get g.nodes m.table ≡ rows
          → IsOfKind (kind_in (node_fields k) name) (cell_val (node_cell name k (get_in rows m.row)))
      go None e rows f = tt
      go (Some k) e None f = tt
      go (Some k) e (Some rows) f = at_row (slice_get rows m.row) refl
        where
          at_row : (cells : Option (List (Option Cell))) → slice_get rows m.row ≡ cells → IsOfKind (kind_in k.fields name) (cell_val (node_cell name (Some k) cells))
          at_row None d = tt
          at_row (Some cells) d =
              let table = zip_at valid.are_nodes g.catalog.nodes g.nodes (nodes_zip g real) m.table rows f in
              let same : table.0 ≡ k = cc in
              let fits : list_all (valid.fits_fields k.fields) rows ≡ true =
              subst (λ (z : NodeTable). list_all (valid.fits_fields z.fields) rows ≡ true) same (and_parts _ _ (and_parts _ _ table.2).0).1 in
              cell_held k.fields cells (all_get (valid.fits_fields k.fields) rows fits m.row cells d) name

  rel_held : (m : RelId) → IsOfKind (kind_in (rel_fields (slice_get g.catalog.rels m.table)) name) (rel_property g m name)
  rel_held m = go (slice_get g.catalog.rels m.table) refl (slice_get g.rels m.table) refl
    where
      go : (k : Option RelTable) → slice_get g.catalog.rels m.table ≡ k → (rels : Option (List PlainRel)) → slice_get g.rels m.table ≡ rels
          → IsOfKind (kind_in (rel_fields k) name) (cell_val (rel_cell name k (get_in rels m.row)))
      go None e rels f = tt
      go (Some k) e None f = tt
      go (Some k) e (Some rels) f = at_row (slice_get rels m.row) refl
        where
          at_row : (r : Option PlainRel) → slice_get rels m.row ≡ r → IsOfKind (kind_in k.fields name) (cell_val (rel_cell name (Some k) r))
          at_row None d = tt
          at_row (Some r) d =
              let table = zip_at (valid.are_rels g.nodes) g.catalog.rels g.rels (rels_zip g real) m.table rels f in
              let same : table.0 ≡ k = cc in
              let fits : list_all (valid.is_rel k.fields (valid.row_count g.nodes k.from) (valid.row_count g.nodes k.to)) rels ≡ true =
              subst (λ (z : RelTable). list_all (valid.is_rel z.fields (valid.row_count g.nodes z.from) (valid.row_count g.nodes z.to)) rels ≡ true) same (and_parts _ _ (and_parts _ _ table.2).0).1 in
              let within = all_get (valid.is_rel k.fields (valid.row_count g.nodes k.from) (valid.row_count g.nodes k.to)) rels fits m.row r d in
              cell_held k.fields r.cells (and_parts _ _ within).1 name

-- ---- the variables of an alternative

-- what tables give, read at a variable, is what the table of its node gives; likewise of relationships
nodes_read : {A : Type 0} (f : ℕ → A) (ks : List ℕ) (ns : List NodeId) → in_tables ks ns ≡ true → (v : ℕ) → slice_get (map f ks) v ≡ option_map (λ n. f n.table) (slice_get ns v)
nodes_read f [] [] h v = refl
nodes_read f [] (n ∷ ns) h v = absurd (true≢false (sym h))
nodes_read f (k ∷ ks) [] h v = absurd (true≢false (sym h))
nodes_read f (k ∷ ks) (n ∷ ns) h zero = ap (λ j. Some (f j)) (sym (eqb-true n.table k (and_parts (nat_eq n.table k) (in_tables ks ns) h).0))
nodes_read f (k ∷ ks) (n ∷ ns) h (suc v) = nodes_read f ks ns (and_parts (nat_eq n.table k) (in_tables ks ns) h).1 v

rels_read : {A : Type 0} (f : ℕ → A) (g : Graph) (t : Assignment) (ys : List TypedRel) (rs : List RelId) → rels_lie g t ys rs ≡ true → (x : ℕ)
    → slice_get (map (λ y. f y.table) ys) x ≡ option_map (λ r. f r.table) (slice_get rs x)
rels_read f g t [] [] h x = refl
rels_read f g t [] (r ∷ rs) h x = absurd (true≢false (sym h))
rels_read f g t (y ∷ ys) [] h x = absurd (true≢false (sym h))
rels_read f g t (y ∷ ys) (r ∷ rs) h zero =
    ap (λ j. Some (f j)) (sym (eqb-true r.table y.table (and_parts (nat_eq r.table y.table) _ (and_parts (rel_lies g t y r) (rels_lie g t ys rs) h).0).0))
rels_read f g t (y ∷ ys) (r ∷ rs) h (suc x) = rels_read f g t ys rs (and_parts (rel_lies g t y r) (rels_lie g t ys rs) h).1 x

pub lying_fits : LyingFitsKinds
lying_fits g y t real lies =
    let parts = and_parts (in_tables y.nodes t.nodes) (rels_lie g t y.rels t.rels) lies in
    record {
      nodes = λ n name. subst (λ o. IsOfKind (field_kind o name) (property_at (node_property g) (slice_get t.nodes n) name))
          (sym (nodes_read (λ k. node_fields (slice_get g.catalog.nodes k)) y.nodes t.nodes parts.0 n)) (node_fits name (slice_get t.nodes n));
      rels = λ n name. subst (λ o. IsOfKind (field_kind o name) (property_at (rel_property g) (slice_get t.rels n) name))
          (sym (rels_read (λ k. rel_fields (slice_get g.catalog.rels k)) g t y.rels t.rels parts.1 n)) (rel_fits name (slice_get t.rels n));
    }
  where
    node_fits : (name : List ℕ) (o : Option NodeId) → IsOfKind (field_kind (option_map (λ n. node_fields (slice_get g.catalog.nodes n.table)) o) name) (property_at (node_property g) o name)
    node_fits name None = tt
    node_fits name (Some n) = node_held g real name n

    rel_fits : (name : List ℕ) (o : Option RelId) → IsOfKind (field_kind (option_map (λ r. rel_fields (slice_get g.catalog.rels r.table)) o) name) (property_at (rel_property g) o name)
    rel_fits name None = tt
    rel_fits name (Some r) = rel_held g real name r
