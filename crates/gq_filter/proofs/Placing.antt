-- The cells that lanes of a relationship variable have at a place are those of the relationship there.
use mathlib.Core.Path.{fun_ext}
use Rattle.std.proofs.Common.{◌≡◌, ◌≢◌, ◌<◌, ◌∙◌, refl, sym, ap, ℕ, ℤ, List, Option, Some, None, arith, inl, inr}
use Rattle.std.specs.Prelude.{slice_get, IfSome}
use Rattle.gq_base.specs.Plain.{Graph}
use Rattle.gq_base.specs.Values.{Val, null, flag, int, str, node, rel}
use Rattle.gq_base.specs.declared.Kind.{Kind}
use Rattle.gq_base.specs.declared.Kind.TheVariants as kind
use Rattle.gq_column.specs.Cells.{cell_at}
use Rattle.gq_plan.specs.Rows.{rel_table, table_of}
use Rattle.gq_plan.specs.declared.assignment.Assignment.{Assignment}
use Rattle.gq_plan.specs.declared.bound.NamedExpr.{NamedExpr}
use Rattle.gq_plan.specs.declared.typed.Typed.{Typed}
use Rattle.gq_store.specs.Places.{number_at}
use Rattle.gq_store.specs.RelColumns.{place_count}
use Rattle.gq_filter.specs.Cells.{IsInLane}
use Rattle.gq_filter.specs.LaneTests.{holds}
use Rattle.gq_filter.specs.Placed.{IsPassingTest, IsPlacedTest}
use Rattle.gq_filter.specs.RowTests.{condition_over}
use Rattle.gq_filter.specs.declared.source.Feed.{Feed}
use Rattle.gq_filter.specs.declared.lane_test.LaneTest.{LaneTest}
use Rattle.gq_filter.specs.declared.placed.PlacedTest.{PlacedTest}
use Rattle.gq_filter.specs.steps.Placing.{ArePlaced, IsPlaced, IsTestOf}
use Rattle.gq_filter.specs.steps.RowCells.{AreFeedsIn, DecidesRows, IsFeedIn, cell_of, cells_of, lane_of, rel_lane}
use Rattle.gq_filter.specs.RowLists.{cells_at}
use Rattle.gq_filter.proofs.RowLanes.{at_number}

-- a value that is no text has one cell
one_cell : (k : Kind) (dict : List (List ℕ)) (v : Val) (a b : Option ℤ) → k ≢ kind.Str → IsInLane k dict v a → IsInLane k dict v b → a ≡ b
one_cell kind.Str dict v a b other p q = absurd (other refl)
one_cell kind.Int dict null a b other p q = p ∙ sym q
one_cell kind.Int dict (flag x) a b other p q = absurd p
one_cell kind.Int dict (int x) a b other p q = p ∙ sym q
one_cell kind.Int dict (str x) a b other p q = absurd p
one_cell kind.Int dict (node x) a b other p q = absurd p
one_cell kind.Int dict (rel x) a b other p q = absurd p
one_cell kind.Flag dict null a b other p q = p ∙ sym q
one_cell kind.Flag dict (flag x) a b other p q = p ∙ sym q
one_cell kind.Flag dict (int x) a b other p q = absurd p
one_cell kind.Flag dict (str x) a b other p q = absurd p
one_cell kind.Flag dict (node x) a b other p q = absurd p
one_cell kind.Flag dict (rel x) a b other p q = absurd p

module _ (g : Graph) (y : Typed) (feeds : List Feed) (are : AreFeedsIn g y feeds) (x places : ℕ) (placed : ArePlaced x places feeds) (place number : ℕ) (row : Assignment) (within : place < places)
    (at : number_at g (rel_table y x) place ≡ Some number) (has : slice_get row.rels x ≡ Some number) where
  placed_cell : (feed : Feed) → IsFeedIn g y feed → IsPlaced x places feed → cell_at feed.property.now.column place ≡ cell_of g row (Some feed)
  placed_cell feed (inl f) is = cc (f.is.variable_is, is.of_rel)
  placed_cell feed (inr f) is =
      let variable : f.variable ≡ x = cc (f.is.variable_is, is.of_rel) in
      let table : rel_table y x ≡ f.rel.table = ap (rel_table y) (sym variable) ∙ ap table_of f.rel_is in
      let there : place < place_count g f.rel.table = omega (arith, within, is.inside, f.is.places) in
      let numbered : number_at g f.rel.table place ≡ Some number = ap (λ t. number_at g t place) (sym table) ∙ at in
      one_cell feed.property.now.kind feed.property.now.dict _ (cell_at feed.property.now.column place) (rel_lane g feed.column (Some number)) f.no_text (f.is.cells place number there numbered) (at_number g y feed f (Some number))
      ∙ sym (ap (lane_of g row feed) is.of_rel ∙ ap (rel_lane g feed.column) has)

  placed_at : (lane : ℕ) (o : Option Feed) → slice_get feeds lane ≡ o → cells_at feeds place lane ≡ cells_of g feeds row lane
  placed_at lane None there = rw there refl
  placed_at lane (Some feed) there = rw there (placed_cell feed (are lane feed there) (placed lane feed there))

  placed_cells : cells_at feeds place ≡ cells_of g feeds row
  placed_cells = fun_ext (λ lane. placed_at lane (slice_get feeds lane) refl)

-- where such a test does not hold, the condition that it decides is not true
pub refused_by : (g : Graph) (y : Typed) (condition : NamedExpr) (feeds : List Feed) (test : LaneTest) → AreFeedsIn g y feeds → DecidesRows g y condition feeds (Some test) →
    (x : ℕ) (o : Option PlacedTest) → IfSome o (IsTestOf test feeds x) → IfSome o (IsPlacedTest (condition_over g y condition) x)
refused_by g y condition feeds test are decides x None of = tt
refused_by g y condition feeds test are decides x (Some t) of = λ place number row at has refused.
    sym (decides row) ∙ ap (λ cells. holds cells test) (sym (placed_cells g y feeds are x t.places of.placed place number row refused.within at has))
    ∙ ap (λ fs. holds (cells_at fs place) test) (sym of.feeds_are) ∙ ap (holds (cells_at t.feeds.now place)) (sym of.test_is) ∙ refused.fails

-- and where it holds, the condition is true
pub passed_by : (g : Graph) (y : Typed) (condition : NamedExpr) (feeds : List Feed) (test : LaneTest) → AreFeedsIn g y feeds → DecidesRows g y condition feeds (Some test) →
    (x : ℕ) (o : Option PlacedTest) → IfSome o (IsTestOf test feeds x) → IfSome o (IsPassingTest (condition_over g y condition) x)
passed_by g y condition feeds test are decides x None of = tt
passed_by g y condition feeds test are decides x (Some t) of = λ place number row at has passes.
    sym (decides row) ∙ ap (λ cells. holds cells test) (sym (placed_cells g y feeds are x t.places of.placed place number row passes.within at has))
    ∙ ap (λ fs. holds (cells_at fs place) test) (sym of.feeds_are) ∙ ap (holds (cells_at t.feeds.now place)) (sym of.test_is) ∙ passes.on
