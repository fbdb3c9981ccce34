-- Lanes whose cells are equal where a test holds, and the properties of nodes that have these cells.
use Rattle.std.proofs.Common.{◌≡◌, ℕ, ◌<◌, ℤ, Bool, true, false, Option, Some, None, List, get_or, length, map, slice_get, refl, sym, ◌∙◌, ap, true≢false}
use Rattle.std.specs.Prelude.{IfSome}
use Rattle.std.specs.List.{list_all}
use Rattle.std.proofs.lemmas.Bool.Decides.{Decides-int_eq}
use Rattle.std.proofs.lemmas.List.Folds.{list_all-map, list_all_at}
use Rattle.gq_column.specs.Cells.{cell_at}
use Rattle.gq_base.specs.Plain.{Graph}
use Rattle.gq_filter.specs.Equal.{AreOne, HaveOne, cell_if, node_cell}
use Rattle.gq_filter.specs.LaneTests.{holds, pass}
use Rattle.gq_filter.specs.declared.equalities.EqualColumns.{EqualColumns}
use Rattle.gq_filter.specs.declared.equalities.NodeColumn.{NodeColumn}
use Rattle.gq_filter.specs.declared.source.Feed.{Feed}
use Rattle.gq_filter.specs.declared.lane_test.LaneTest.{LaneTest}
use Rattle.gq_filter.specs.steps.RowCells.{DecidesRows, cell_in, cell_of, cells_of, lane_of}
use Rattle.gq_lanes.specs.Tests.{compares}
use Rattle.gq_lanes.specs.declared.lanes.LaneOp.TheVariants.{Equal}
use Rattle.gq_plan.specs.Conditions.{passes}
use Rattle.gq_plan.specs.Rows.{as_read}
use Rattle.gq_plan.specs.declared.assignment.Assignment.{Assignment}
use Rattle.gq_plan.specs.declared.bound.NamedExpr.{NamedExpr}
use Rattle.gq_plan.specs.declared.typed.Typed.{Typed}
use Rattle.gq_plan.specs.declared.variable.Variable.TheVariants.{Node}

pub equal_cells : (left right : Option ℤ) → pass (compares Equal) left right ≡ true → AreOne left right
equal_cells None right is = absurd (true≢false (sym is))
equal_cells (Some x) None is = absurd (true≢false (sym is))
equal_cells (Some x) (Some y) is = let same : x ≡ y = (Decides-int_eq x y).0 is in record { value = x; left_is = refl; right_is = ap Some (sym same) }

-- the lanes of two properties of nodes
pub have_one : (e : EqualColumns) (row : Assignment) (left right : Option ℤ) → left ≡ node_cell e.left row → right ≡ node_cell e.right row → AreOne left right → HaveOne e row
have_one e row left right l r one = record { value = one.value; left_is = sym l ∙ one.left_is; right_is = sym r ∙ one.right_is }

-- the lane of a feed of a node variable
pub feed_cell : (g : Graph) (feeds : List Feed) (row : Assignment) (lane : ℕ) (feed : Feed) (node : ℕ) (c : NodeColumn) → slice_get feeds lane ≡ Some feed → feed.variable ≡ Node node → c.node ≡ node → c.column.now ≡ feed.property.now.column
    → cells_of g feeds row lane ≡ node_cell c row
feed_cell g feeds row lane feed node c there is node_is column_is =
    ap (cell_of g row) there ∙ ap (lane_of g row feed) is ∙ ap (λ v. cell_in feed.property.now.column (slice_get row.nodes v)) (sym node_is) ∙ same (slice_get row.nodes c.node)
  where
    same : (o : Option ℕ) → cell_in feed.property.now.column o ≡ cell_if c o
    same None = refl
    same (Some r) = ap (λ cells. cell_at cells r) (sym column_is)

-- where all of several tests hold, each does
pub all_hold_at : (f : LaneTest → Bool) (tests : List LaneTest) (i : ℕ) (d : LaneTest) → i < length tests → list_all (λ on. on) (map f tests) ≡ true → f (get_or tests i d) ≡ true
all_hold_at f tests i d low all = at (f (get_or tests i d)) refl
  where
    at : (b : Bool) → f (get_or tests i d) ≡ b → f (get_or tests i d) ≡ true
    at true is = is
    at false is = absurd (true≢false (sym all ∙ list_all-map (λ on. on) f tests ∙ list_all_at f tests i d low is))

-- where a condition is true, the test that decides it holds
pub asked_of : (g : Graph) (y : Typed) (condition : NamedExpr) (feeds : List Feed) (t : LaneTest) → DecidesRows g y condition feeds (Some t)
    → (o : Option EqualColumns) → IfSome o (λ e. (h : Graph) (row : Assignment) → holds (cells_of h feeds row) t ≡ true → HaveOne e row) → IfSome o (λ e. (row : Assignment) → passes g (as_read y row) condition ≡ true → HaveOne e row)
asked_of g y condition feeds t decides None h = tt
asked_of g y condition feeds t decides (Some e) h = λ row is. h g row (decides row ∙ is)
