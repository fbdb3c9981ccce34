-- What lanes have in a row, in which a node variable takes another row.
use Rattle.std.proofs.Common.{◌≡◌, ◌≢◌, ◌∙◌, zero, suc, refl, sym, ap, ℕ, ℤ, List, [], ◌∷◌, Bool, Option, Some, None}
use Rattle.std.specs.Prelude.{◌&&◌, slice_get, slice_index, slice_set}
use Rattle.gq_base.specs.Plain.{Graph}
use Rattle.gq_bits.specs.Places.{is_marked}
use Rattle.gq_column.specs.Cells.{cell_at}
use Rattle.gq_plan.specs.Conditions.{passes}
use Rattle.gq_plan.specs.Rows.{as_read}
use Rattle.gq_plan.specs.declared.assignment.Assignment.{Assignment}
use Rattle.gq_plan.specs.declared.bound.NamedExpr.{NamedExpr}
use Rattle.gq_plan.specs.declared.typed.Typed.{Typed}
use Rattle.gq_plan.specs.declared.variable.Variable.TheVariants.{Node, Rel}
use Rattle.gq_filter.specs.LaneTests.{holds, pass}
use Rattle.gq_filter.specs.LaneTests as tests
use Rattle.gq_filter.specs.Rows.{with_row}
use Rattle.gq_filter.specs.declared.source.Feed.{Feed}
use Rattle.gq_filter.specs.declared.lane_test.LaneTest.{LaneTest}
use Rattle.gq_filter.specs.declared.standing_row.StandingRow.{StandingRow}
use Rattle.gq_filter.specs.steps.RowCells.{DecidesRows, cell_in, cell_of, cells_of, lane_of}
use Rattle.gq_filter.specs.steps.Standing.{standing_cells}
use Rattle.gq_lanes.specs.Tests.{compares}
use Rattle.gq_lanes.specs.declared.lanes.LaneOp.{LaneOp}
use Rattle.gq_filter.proofs.Spanned.{put_in}

-- another one than the one that was put in
get_other : (xs : List ℕ) (i j a : ℕ) → j ≢ i → slice_get (slice_set xs i a) j ≡ slice_get xs j
get_other [] i j a other = refl
get_other (x ∷ xs) zero zero a other = absurd (other refl)
get_other (x ∷ xs) zero (suc j) a other = refl
get_other (x ∷ xs) (suc i) zero a other = refl
get_other (x ∷ xs) (suc i) (suc j) a other = get_other xs i j a (λ e. other (ap suc e))

module _ (s : StandingRow) (lane : ℕ) where
  pub no_lane : None ≡ slice_get s.feeds.now lane → (row : ℕ) → None ≡ standing_cells s row lane
  no_lane there row = ap (cell_of s.graph.now (with_row s.variable row s.row.now)) there

  module _ (feed : Feed) (there : Some feed ≡ slice_get s.feeds.now lane) where
    -- of the variable
    pub moves : (node : ℕ) → feed.variable ≡ Node node → node ≡ s.variable → (row : ℕ) → cell_at feed.property.now.column row ≡ standing_cells s row lane
    moves node is same row =
        let taken : Assignment = with_row s.variable row s.row.now in
        sym (ap (lane_of s.graph.now taken feed) (is ∙ ap Node same) ∙ ap (cell_in feed.property.now.column) (put_in s.row.now.nodes s.variable row s.there))
        ∙ ap (cell_of s.graph.now taken) there

    -- of another one
    pub stands : (node : ℕ) → feed.variable ≡ Node node → node ≢ s.variable → (row : ℕ) → cells_of s.graph.now s.feeds.now s.row.now lane ≡ standing_cells s row lane
    stands node is other row =
        let taken : Assignment = with_row s.variable row s.row.now in
        sym (ap (cell_of s.graph.now s.row.now) there) ∙ ap (lane_of s.graph.now s.row.now feed) is
        ∙ ap (cell_in feed.property.now.column) (sym (get_other s.row.now.nodes s.variable node row other))
        ∙ sym (ap (lane_of s.graph.now taken feed) is) ∙ ap (cell_of s.graph.now taken) there

    -- of a relationship
    pub stands_rel : (x : ℕ) → feed.variable ≡ Rel x → (row : ℕ) → cells_of s.graph.now s.feeds.now s.row.now lane ≡ standing_cells s row lane
    stands_rel x is row =
        let taken : Assignment = with_row s.variable row s.row.now in
        sym (ap (cell_of s.graph.now s.row.now) there) ∙ ap (lane_of s.graph.now s.row.now feed) is
        ∙ sym (ap (lane_of s.graph.now taken feed) is) ∙ ap (cell_of s.graph.now taken) there

-- a comparison of cells, turned
pub pass_turned : (op other : LaneOp) → ((a b : ℤ) → compares other a b ≡ compares op b a) → (left right : Option ℤ) → pass (compares other) right left ≡ pass (compares op) left right
pass_turned op other same None None = refl
pass_turned op other same None (Some y) = refl
pass_turned op other same (Some x) None = refl
pass_turned op other same (Some x) (Some y) = same y x

-- a comparison with a constant
pub pass_const : (op : LaneOp) (constant : ℤ) (cell : Option ℤ) → tests.passes (λ z. compares op z constant) cell ≡ pass (compares op) cell (Some constant)
pass_const op constant None = refl
pass_const op constant (Some z) = refl

pub pass_none : (op : LaneOp) (cell : Option ℤ) → pass (compares op) cell None ≡ pass (compares op) None None
pass_none op None = refl
pass_none op (Some z) = refl

-- what a test keeps of rows that are taken is what the condition keeps
pub standing_kept : (g : Graph) (y : Typed) (condition : NamedExpr) (feeds : List Feed) (test : LaneTest) → DecidesRows g y condition feeds (Some test) →
    (variable : ℕ) (row : Assignment) (rows : List ℕ) (old new : List Bool) →
    ((k : ℕ) → is_marked new k ≡ (is_marked old k && holds (cells_of g feeds (with_row variable (slice_index rows k) row)) test)) →
    (k : ℕ) → is_marked new k ≡ (is_marked old k && passes g (as_read y (with_row variable (slice_index rows k) row)) condition)
standing_kept g y condition feeds test decides variable row rows old new kept k = kept k ∙ ap (λ b. is_marked old k && b) (decides (with_row variable (slice_index rows k) row))
