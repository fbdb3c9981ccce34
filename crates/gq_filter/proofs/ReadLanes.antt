-- The cells that are read of a row are in the lanes of what the condition reads.
use Rattle.std.proofs.Common.{◌≡◌, ◌∙◌, ◌+◌, ◌<◌, ℕ, ℤ, List, Option, Some, None, length, refl, sym, ap, subst, inl, inr, arith}
use Rattle.std.specs.Prelude.{slice_get, slice_set}
use Rattle.std.proofs.lemmas.Bool.{cases_eq}
use Rattle.std.proofs.lemmas.List.{get_or-set_same, get_or-set_other}
use Rattle.std.proofs.lemmas.Option.{slice_get_within}
use Rattle.gq_base.specs.Plain.{Graph}
use Rattle.gq_base.specs.Values.{null}
use Rattle.gq_base.specs.declared.NodeId.{NodeId}
use Rattle.gq_base.specs.declared.RelId.{RelId}
use Rattle.gq_column.specs.Cells.{cell_at}
use Rattle.gq_expr.specs.Reading.{Assignment, property_at, node_property, rel_property}
use Rattle.gq_plan.specs.declared.variable.Variable.TheVariants.{Node, Rel}
use Rattle.gq_filter.proofs.RowLanes.{at_number, at_row}
use Rattle.gq_filter.specs.Cells.{IsInLane}
use Rattle.gq_filter.specs.Sources.{AreLanes, property_of, value_of}
use Rattle.gq_filter.specs.declared.source.Feed.{Feed}
use Rattle.gq_filter.specs.declared.source.ColumnId.{ColumnId}
use Rattle.gq_filter.specs.steps.ReadCells.{AreFilled, IsFeed, IsFilled, lane_in}
use Rattle.gq_filter.specs.steps.RowCells.{rel_lane}

module _ (g : Graph) (row : Assignment) (feed : Feed) where
  pub no_node : (v : ℕ) → feed.variable ≡ Node v → row.nodes v ≡ None → IsFilled g row feed None
  no_node v is at =
      let value : value_of g row feed ≡ null = ap (λ x. property_of g row x feed.name.now) is ∙ ap (λ o. property_at (node_property g) o feed.name.now) at in
      subst (λ x. IsInLane feed.property.now.kind feed.property.now.dict x None) (sym value) refl

  pub no_rel : (x : ℕ) → feed.variable ≡ Rel x → row.rels x ≡ None → IsFilled g row feed None
  no_rel x is at =
      let value : value_of g row feed ≡ null = ap (λ y. property_of g row y feed.name.now) is ∙ ap (λ o. property_at (rel_property g) o feed.name.now) at in
      subst (λ y. IsInLane feed.property.now.kind feed.property.now.dict y None) (sym value) refl

  pub node_filled : (v : ℕ) (n : NodeId) → IsFeed g feed → feed.variable ≡ Node v → row.nodes v ≡ Some n → n.table ≡ feed.column.table → IsFilled g row feed (cell_at feed.property.now.column n.row)
  node_filled v n s is at on = elim s.is [
    | inl f ↦
        (let value : value_of g row feed ≡ node_property g n f.name =
        ap (λ x. property_of g row x feed.name.now) is ∙ ap (property_of g row (Node v)) f.is.name_is ∙ ap (λ o. property_at (node_property g) o f.name) at in
        let table : n.table ≡ f.table = on ∙ ap (λ (c : ColumnId). c.table) f.is.column_is in
        let here : IsInLane feed.property.now.kind feed.property.now.dict (node_property g n f.name) (cell_at feed.property.now.column n.row) =
        subst (λ t. IsInLane feed.property.now.kind feed.property.now.dict (node_property g (record { table = t; row = n.row }) f.name) (cell_at feed.property.now.column n.row)) (sym table)
        (at_row g s.typed feed f (Some n.row)) in
        subst (λ x. IsInLane feed.property.now.kind feed.property.now.dict x (cell_at feed.property.now.column n.row)) (sym value) here)
    | inr f ↦ cc (f.is.variable_is, is)
  ]

  pub rel_filled : (x : ℕ) (r : RelId) → IsFeed g feed → feed.variable ≡ Rel x → row.rels x ≡ Some r → r.table ≡ feed.column.table → IsFilled g row feed (rel_lane g feed.column (Some r.row))
  rel_filled x r s is at on = elim s.is [
    | inl f ↦ cc (f.is.variable_is, is)
    | inr f ↦
        (let lane = rel_lane g feed.column (Some r.row) in
        let value : value_of g row feed ≡ rel_property g r f.name =
        ap (λ y. property_of g row y feed.name.now) is ∙ ap (property_of g row (Rel x)) f.is.name_is ∙ ap (λ o. property_at (rel_property g) o f.name) at in
        let table : r.table ≡ f.rel.table = on ∙ ap (λ (c : ColumnId). c.table) f.is.column_is in
        let here : IsInLane feed.property.now.kind feed.property.now.dict (rel_property g r f.name) lane =
        subst (λ t. IsInLane feed.property.now.kind feed.property.now.dict (rel_property g (record { table = t; row = r.row }) f.name) lane) (sym table)
        (at_number g s.typed feed f (Some r.row)) in
        subst (λ y. IsInLane feed.property.now.kind feed.property.now.dict y lane) (sym value) here)
  ]

pub lanes_filled : (g : Graph) (row : Assignment) (feeds : List Feed) (cells : List (Option ℤ)) → AreFilled g row feeds (length feeds) cells → AreLanes g row feeds (lane_in cells)
lanes_filled g row feeds cells filled = λ lane feed at. filled lane feed (slice_get_within feeds lane feed at) at

-- one lane more
pub one_filled : (g : Graph) (row : Assignment) (feeds : List Feed) (cells : List (Option ℤ)) (n : ℕ) (feed : Feed) (cell : Option ℤ) → n < length cells → slice_get feeds n ≡ Some feed →
    IsFilled g row feed cell → AreFilled g row feeds n cells → AreFilled g row feeds (n + 1) (slice_set cells n cell)
one_filled g row feeds cells n feed cell inside there is before = λ lane f below at. elim (cases_eq lane n) [
  | inl same ↦
      (let here : slice_get feeds lane ≡ Some feed = ap (slice_get feeds) same ∙ there in
      let one : feed ≡ f = cc in
      subst (λ x. IsFilled g row x (lane_in (slice_set cells n cell) lane)) one
      (subst (λ k. IsFilled g row feed (lane_in (slice_set cells n cell) k)) (sym same)
      (subst (IsFilled g row feed) (sym (get_or-set_same cells n cell None inside)) is)))
  | inr other ↦ subst (IsFilled g row f) (sym (get_or-set_other cells n lane cell None other)) (before lane f (omega (arith, below, other)) at)
]
