-- The lanes of a condition in a row have the values of what it reads there.
use mathlib.Core.Path.{fun_ext}
use Rattle.std.proofs.Common.{◌≡◌, ◌≢◌, ◌++◌, ◌∷◌, zero, suc, is_some, ◌≤◌, ◌<◌, ◌∙◌, [], refl, ℕ, List, Option, Some, None, true, length, sym, ap, subst, arith, inl, inr}
use Rattle.std.specs.Prelude.{slice_get, IfSome}
use Rattle.std.proofs.lemmas.Bool.{cases_lt, false≢true, true≢false}
use Rattle.std.proofs.lemmas.Option.{slice_get_past, IfSome_then}
use Rattle.std.proofs.lemmas.List.{get_or_past}
use Rattle.gq_base.specs.Plain.{Graph}
use Rattle.gq_base.specs.Plain as plain
use Rattle.gq_base.specs.Valid.{is_of_kind, row_count}
use Rattle.gq_base.specs.Values.{null}
use Rattle.gq_base.specs.declared.Cell.{Cell}
use Rattle.gq_base.specs.declared.cell.Cell.TheVariants as cell
use Rattle.gq_base.specs.declared.Kind.{Kind}
use Rattle.gq_base.specs.declared.Kind.TheVariants as kind
use Rattle.gq_base.specs.declared.NodeTable.{NodeTable}
use Rattle.gq_column.specs.Cells.{cell_at}
use Rattle.gq_dict.proofs.OneDict.{one_dict}
use Rattle.gq_expr.specs.Reading as reading
use Rattle.gq_expr.specs.Reading.{get_in, property_at, node_property, rel_property}
use Rattle.gq_plan.proofs.Rows.{node_read, rel_read}
use Rattle.gq_plan.specs.Rows.{as_read}
use Rattle.gq_plan.specs.steps.Rows.{node_in, rel_in}
use Rattle.gq_plan.specs.declared.assignment.Assignment.{Assignment}
use Rattle.gq_plan.specs.declared.bound.NamedExpr.{NamedExpr}
use Rattle.gq_plan.specs.declared.typed.Typed.{Typed}
use Rattle.gq_plan.specs.declared.variable.Variable.{Variable}
use Rattle.gq_plan.specs.declared.variable.Variable.TheVariants.{Node, Rel}
use Rattle.gq_store.specs.Cells.{rel_cell, rel_fields}
use Rattle.gq_store.specs.Columns.{IsDictOf, node_cells}
use Rattle.gq_store.specs.RelColumns.{rel_cells}
use Rattle.gq_filter.proofs.Deciding.{kept_by}
use Rattle.gq_plan.specs.Conditions.{passes}
use Rattle.gq_filter.specs.LaneTests.{holds}
use Rattle.gq_filter.specs.Cells.{IsInLane}
use Rattle.gq_filter.specs.Deciding.{Decides}
use Rattle.gq_filter.specs.Sources.{AreLanes, AreSources, property_of, value_of}
use Rattle.gq_filter.specs.declared.source.Feed.{Feed}
use Rattle.gq_filter.specs.declared.lane_test.LaneTest.{LaneTest}
use Rattle.gq_filter.specs.declared.source.ColumnId.{ColumnId}
use Rattle.gq_filter.specs.steps.RowCells.{AreFeedsIn, AreInside, AreOfNodes, DecidesRows, IsFeedIn, IsNodeFeedIn, IsOfNode, IsRelFeedIn, cell_in, cell_of, cells_of, lane_of, number_of, rel_lane}

-- a node past the rows of its table has no properties
no_cells : (name : List ℕ) (t : Option NodeTable) → plain.cell_val (reading.node_cell name t None) ≡ null
no_cells name None = refl
no_cells name (Some t) = refl

past_rows : (g : Graph) (table row : ℕ) (name : List ℕ) → row_count g.nodes table ≤ row → node_property g (record { table = table; row = row }) name ≡ null
past_rows g table row name past =
    ap (λ o. plain.cell_val (reading.node_cell name (slice_get g.catalog.nodes table) o)) (none (slice_get g.nodes table) past) ∙ no_cells name (slice_get g.catalog.nodes table)
  where
    none : (o : Option (List (List (Option Cell)))) → length (plain.rows_of o) ≤ row → get_in o row ≡ None
    none None h = refl
    none (Some rows) h = slice_get_past rows row h

-- a feed's cell in a row is what its source's value is in a lane
module _ (g : Graph) (y : Typed) (feed : Feed) (f : IsNodeFeedIn g y feed) where
  pub at_row : (o : Option ℕ) → IsInLane feed.property.now.kind feed.property.now.dict (property_at (node_property g) (node_in (Some f.table) o) f.name) (cell_in feed.property.now.column o)
  at_row None = refl
  at_row (Some row) = elim (cases_lt row (row_count g.nodes f.table)) [
    | inl low ↦ f.is.cells row low
    | inr past ↦
        subst (λ v. IsInLane feed.property.now.kind feed.property.now.dict v (cell_at feed.property.now.column row)) (sym (past_rows g f.table row f.name past))
        (get_or_past feed.property.now.column row None (omega (arith, past, f.is.rows)))
  ]

  -- the property of the variable's node in a row is in the column at the variable's row
  pub node_text : (row : Assignment) → IsInLane feed.property.now.kind feed.property.now.dict (property_at (node_property g) ((as_read y row).nodes f.variable) f.name) (cell_in feed.property.now.column (slice_get row.nodes f.variable))
  node_text row =
      let node : (as_read y row).nodes f.variable ≡ node_in (Some f.table) (slice_get row.nodes f.variable) = node_read y row f.variable ∙ ap (λ t. node_in t (slice_get row.nodes f.variable)) f.table_is in
      subst (λ n. IsInLane feed.property.now.kind feed.property.now.dict (property_at (node_property g) n f.name) (cell_in feed.property.now.column (slice_get row.nodes f.variable))) (sym node) (at_row (slice_get row.nodes f.variable))

  node_lane : (row : Assignment) → IsInLane feed.property.now.kind feed.property.now.dict (value_of g (as_read y row) feed) (cell_of g row (Some feed))
  node_lane row =
      let at = as_read y row in
      let node : at.nodes f.variable ≡ node_in (Some f.table) (slice_get row.nodes f.variable) = node_read y row f.variable ∙ ap (λ t. node_in t (slice_get row.nodes f.variable)) f.table_is in
      let value : value_of g at feed ≡ property_at (node_property g) (node_in (Some f.table) (slice_get row.nodes f.variable)) f.name =
      ap (λ v. property_of g at v feed.name.now) f.is.variable_is ∙ ap (property_of g at (Node f.variable)) f.is.name_is ∙ ap (λ o. property_at (node_property g) o f.name) node in
      let cell : cell_of g row (Some feed) ≡ cell_in feed.property.now.column (slice_get row.nodes f.variable) = ap (lane_of g row feed) f.is.variable_is in
      subst (λ v. IsInLane feed.property.now.kind feed.property.now.dict v (cell_of g row (Some feed))) (sym value)
      (subst (λ c. IsInLane feed.property.now.kind feed.property.now.dict (property_at (node_property g) (node_in (Some f.table) (slice_get row.nodes f.variable)) f.name) c) (sym cell) (at_row (slice_get row.nodes f.variable)))

-- a cell that is no text is in a lane what its value is
coded : (k : Kind) (dict : List (List ℕ)) (c : Option Cell) → is_of_kind k c ≡ true → k ≢ kind.Str → IsInLane k dict (plain.cell_val c) (number_of (plain.cell_val c))
coded k dict None of other = refl
coded kind.Int dict (Some (cell.Int z)) of other = refl
coded kind.Int dict (Some (cell.Str s)) of other = absurd (false≢true of)
coded kind.Int dict (Some (cell.Flag b)) of other = absurd (false≢true of)
coded kind.Flag dict (Some (cell.Int z)) of other = absurd (false≢true of)
coded kind.Flag dict (Some (cell.Str s)) of other = absurd (false≢true of)
coded kind.Flag dict (Some (cell.Flag b)) of other = refl
coded kind.Str dict (Some c) of other = absurd (other refl)

module _ (g : Graph) (y : Typed) (feed : Feed) (f : IsRelFeedIn g y feed) where
  pub at_number : (o : Option ℕ) → IsInLane feed.property.now.kind feed.property.now.dict (property_at (rel_property g) (rel_in (Some f.rel) o) f.name) (rel_lane g feed.column o)
  at_number None = refl
  at_number (Some number) =
      let c = rel_cell g f.rel.table f.is.property number in
      let lane : rel_lane g feed.column (Some number) ≡ number_of (plain.cell_val c) = ap (λ (i : ColumnId). rel_lane g i (Some number)) f.is.column_is in
      subst (IsInLane feed.property.now.kind feed.property.now.dict (rel_property g (record { table = f.rel.table; row = number }) f.name)) (sym lane)
      (subst (λ v. IsInLane feed.property.now.kind feed.property.now.dict v (number_of (plain.cell_val c))) (f.is.values number) (coded feed.property.now.kind feed.property.now.dict c (f.is.kinds number) f.no_text))

  rel_in_row : (row : Assignment) → IsInLane feed.property.now.kind feed.property.now.dict (value_of g (as_read y row) feed) (cell_of g row (Some feed))
  rel_in_row row =
      let at = as_read y row in
      let found : at.rels f.variable ≡ rel_in (Some f.rel) (slice_get row.rels f.variable) = rel_read y row f.variable ∙ ap (λ r. rel_in r (slice_get row.rels f.variable)) f.rel_is in
      let value : value_of g at feed ≡ property_at (rel_property g) (rel_in (Some f.rel) (slice_get row.rels f.variable)) f.name =
      ap (λ v. property_of g at v feed.name.now) f.is.variable_is ∙ ap (property_of g at (Rel f.variable)) f.is.name_is ∙ ap (λ o. property_at (rel_property g) o f.name) found in
      let cell : cell_of g row (Some feed) ≡ rel_lane g feed.column (slice_get row.rels f.variable) = ap (lane_of g row feed) f.is.variable_is in
      subst (λ v. IsInLane feed.property.now.kind feed.property.now.dict v (cell_of g row (Some feed))) (sym value)
      (subst (λ c. IsInLane feed.property.now.kind feed.property.now.dict (property_at (rel_property g) (rel_in (Some f.rel) (slice_get row.rels f.variable)) f.name) c) (sym cell) (at_number (slice_get row.rels f.variable)))

in_lane : (g : Graph) (y : Typed) (feed : Feed) → IsFeedIn g y feed → (row : Assignment) → IsInLane feed.property.now.kind feed.property.now.dict (value_of g (as_read y row) feed) (cell_of g row (Some feed))
in_lane g y feed (inl f) row = node_lane g y feed f row
in_lane g y feed (inr f) row = rel_in_row g y feed f row

pub lanes_of_feeds : (g : Graph) (y : Typed) (feeds : List Feed) → AreFeedsIn g y feeds → (row : Assignment) → AreLanes g (as_read y row) feeds (cells_of g feeds row)
lanes_of_feeds g y feeds are row = λ lane feed is.
    subst (λ o. IsInLane feed.property.now.kind feed.property.now.dict (value_of g (as_read y row) feed) (cell_of g row o)) (sym is) (in_lane g y feed (are lane feed is) row)

-- columns of one table and one property have one dictionary
dicts_of_one : (cells : List (Option Cell)) (d e : List (List ℕ)) → IsDictOf cells d → IsDictOf cells e → d ≡ e
dicts_of_one cells d e a b = one_dict d e a.ascending b.ascending (λ t has. (b.same t).1 ((a.same t).0 has)) (λ t has. (a.same t).1 ((b.same t).0 has))

dicts_same : (cells : ℕ → ℕ → List (Option Cell)) (d e : List (List ℕ)) (t u p q : ℕ) → t ≡ u → p ≡ q → IsDictOf (cells t p) d → IsDictOf (cells u q) e → d ≡ e
dicts_same cells d e t u p q tables properties a b = dicts_of_one (cells u q) d e (subst (λ i. IsDictOf (cells u i) d) properties (subst (λ k. IsDictOf (cells k p) d) tables a)) b

one_column : (g : Graph) (y : Typed) (f h : Feed) → IsFeedIn g y f → IsFeedIn g y h → f.column ≡ h.column → f.property.now.dict ≡ h.property.now.dict
one_column g y f h (inl a) (inl b) same =
    let column = sym a.is.column_is ∙ same ∙ b.is.column_is in
    dicts_same (node_cells g) _ _ _ _ _ _ (ap (λ (c : ColumnId). c.table) column) (ap (λ (c : ColumnId). c.property) column) a.is.dict_is b.is.dict_is
one_column g y f h (inl a) (inr b) same = absurd (false≢true (ap (λ (c : ColumnId). c.of_rels) (sym a.is.column_is ∙ same ∙ b.is.column_is)))
one_column g y f h (inr a) (inl b) same = absurd (true≢false (ap (λ (c : ColumnId). c.of_rels) (sym a.is.column_is ∙ same ∙ b.is.column_is)))
one_column g y f h (inr a) (inr b) same =
    let column = sym a.is.column_is ∙ same ∙ b.is.column_is in
    dicts_same (rel_cells g) _ _ _ _ _ _ (ap (λ (c : ColumnId). c.table) column) (ap (λ (c : ColumnId). c.property) column) a.is.dict_is b.is.dict_is

pub sources_of_feeds : (g : Graph) (y : Typed) (feeds : List Feed) → AreFeedsIn g y feeds → AreSources feeds
sources_of_feeds g y feeds are = record {
  ascending = λ lane feed is. elim (are lane feed is) [ inl a ↦ a.is.dict_is.ascending | inr b ↦ b.is.dict_is.ascending ];
  one_dict = λ i j f h at_f at_h one. one_column g y f h (are i f at_f) (are j h at_h) one;
}

-- the columns of relationships are there
inside_of : (g : Graph) (y : Typed) (feed : Feed) → IsFeedIn g y feed → (x : ℕ) → feed.variable ≡ Rel x →
    (feed.column.table < length g.catalog.rels) × (feed.column.property < length (rel_fields g feed.column.table))
inside_of g y feed (inl a) x is = cc (a.is.variable_is, is)
inside_of g y feed (inr b) x is = subst (λ (c : ColumnId). (c.table < length g.catalog.rels) × (c.property < length (rel_fields g c.table))) (sym b.is.column_is) (b.within, b.is.inside)

pub all_inside : (g : Graph) (y : Typed) (feeds : List Feed) → AreFeedsIn g y feeds → AreInside g feeds
all_inside g y feeds are = λ lane feed x at is. inside_of g y feed (are lane feed at) x is

-- a test that decides a condition by the feeds' lanes decides it row by row
pub rows_decided : (g : Graph) (y : Typed) (condition : NamedExpr) (feeds : List Feed) (found : Option LaneTest) → AreFeedsIn g y feeds →
    IfSome found (Decides true feeds condition.expr) → DecidesRows g y condition feeds found
rows_decided g y condition feeds found are decides =
    IfSome_then found decides (λ t decide row. kept_by feeds condition t g (as_read y row) (cells_of g feeds row) decide (lanes_of_feeds g y feeds are row))

-- what lanes of node variables decide hangs on their rows alone
pub rows_alone : (g : Graph) (y : Typed) (condition : NamedExpr) (feeds : List Feed) (test : LaneTest) → DecidesRows g y condition feeds (Some test) → AreOfNodes feeds → (old new : Assignment) → old.nodes ≡ new.nodes →
    passes g (as_read y old) condition ≡ passes g (as_read y new) condition
rows_alone g y condition feeds test decides nodes old new same =
    sym (decides old) ∙ ap (λ cells. holds cells test) (fun_ext (λ lane. at lane (slice_get feeds lane) refl)) ∙ decides new
  where
    lane_same : (feed : Feed) (v : Variable) → IsOfNode v → lane_of g old feed v ≡ lane_of g new feed v
    lane_same feed (Node v) u = ap (λ rows. cell_in feed.property.now.column (slice_get rows v)) same
    lane_same feed (Rel x) u = absurd u

    at : (lane : ℕ) (o : Option Feed) → slice_get feeds lane ≡ o → cell_of g old (slice_get feeds lane) ≡ cell_of g new (slice_get feeds lane)
    at lane None h = rw h refl
    at lane (Some feed) h = rw h (lane_same feed feed.variable (nodes lane feed h))

pub rows_only : (g : Graph) (y : Typed) (condition : NamedExpr) (feeds : List Feed) (found : Option LaneTest) → is_some found ≡ true → DecidesRows g y condition feeds found → AreOfNodes feeds → (old new : Assignment) → old.nodes ≡ new.nodes →
    passes g (as_read y old) condition ≡ passes g (as_read y new) condition
rows_only g y condition feeds None some decides nodes old new same = absurd (false≢true some)
rows_only g y condition feeds (Some test) some decides nodes old new same = rows_alone g y condition feeds test decides nodes old new same

-- one feed more
more : (P : Feed → Type 0) (feeds : List Feed) (f : Feed) → ((lane : ℕ) (feed : Feed) → slice_get feeds lane ≡ Some feed → P feed) → P f → (lane : ℕ) (feed : Feed) → slice_get (feeds ++ f ∷ []) lane ≡ Some feed → P feed
more P [] f all p zero feed at = let same : f ≡ feed = cc in subst P same p
more P [] f all p (suc lane) feed at = cc
more P (x ∷ feeds) f all p zero feed at = all zero feed at
more P (x ∷ feeds) f all p (suc lane) feed at = more P feeds f (λ n. all (suc n)) p lane feed at

pub feeds_more : (g : Graph) (y : Typed) (feeds : List Feed) (f : Feed) → AreFeedsIn g y feeds → IsFeedIn g y f → AreFeedsIn g y (feeds ++ f ∷ [])
feeds_more g y feeds f are is = more (IsFeedIn g y) feeds f are is
