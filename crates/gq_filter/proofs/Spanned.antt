-- A test of lanes in rows that follow one another says what it says row by row.
use mathlib.Core.Path.{fun_ext}
use Rattle.std.proofs.Common.{◌≡◌, ◌≤◌, ◌<◌, ◌+◌, ◌-◌, ◌∙◌, refl, sym, ap, ℕ, List, Bool, Option, Some, None, false, length, drop, inl, inr, arith}
use Rattle.std.specs.Prelude.{◌&&◌, slice_get, slice_index, slice_set}
use Rattle.std.proofs.lemmas.Bool.{cases_lt}
use Rattle.std.proofs.lemmas.List.{get_or-take, get_or-drop, get_or-set_same, length-set}
use Rattle.std.proofs.lemmas.Option.{slice_get-get_or}
use Rattle.gq_base.specs.Plain.{Graph}
use Rattle.gq_bits.specs.Places.{is_marked}
use Rattle.gq_plan.specs.Conditions.{passes}
use Rattle.gq_plan.specs.Rows.{as_read}
use Rattle.gq_plan.specs.declared.assignment.Assignment.{Assignment}
use Rattle.gq_plan.specs.declared.bound.NamedExpr.{NamedExpr}
use Rattle.gq_plan.specs.declared.typed.Typed.{Typed}
use Rattle.gq_filter.specs.LaneTests.{holds}
use Rattle.gq_filter.specs.Rows.{with_row}
use Rattle.gq_filter.specs.declared.source.Feed.{Feed}
use Rattle.gq_filter.specs.declared.lane_test.LaneTest.{LaneTest}
use Rattle.gq_filter.specs.steps.RowCells.{DecidesRows, cell_in, cell_of, cells_of, lane_of}
use Rattle.gq_filter.specs.RowLists.{cells_at, feed_cell}
use Rattle.gq_filter.specs.steps.SpanLanes.{AreSpanned, IsSpanned, span_cell}

-- the row that was put in
pub put_in : (nodes : List ℕ) (variable row : ℕ) → variable < length nodes → slice_get (slice_set nodes variable row) variable ≡ Some row
put_in nodes variable row inside =
    (let long : variable < length (slice_set nodes variable row) = (let same = length-set nodes variable row in omega (arith, inside, same)) in
    slice_get-get_or (slice_set nodes variable row) variable 0 long ∙ ap Some (get_or-set_same nodes variable row 0 inside))

module _ (g : Graph) (feeds : List Feed) (variable low high : ℕ) (spanned : AreSpanned variable high feeds) (row : Assignment) (inside : variable < length row.nodes) (k : ℕ) (below : k < high - low) where
  one_cell : (feed : Feed) → IsSpanned variable high feed → span_cell low high (Some feed) k ≡ cell_of g (with_row variable (low + k) row) (Some feed)
  one_cell feed is =
      get_or-take (high - low) (drop low feed.property.now.column) k None below ∙ get_or-drop low feed.property.now.column k None
      ∙ sym (ap (lane_of g (with_row variable (low + k) row) feed) is.of_node ∙ ap (cell_in feed.property.now.column) (put_in row.nodes variable (low + k) inside))

  cell_there : (lane : ℕ) (o : Option Feed) → slice_get feeds lane ≡ o → span_cell low high o k ≡ cell_of g (with_row variable (low + k) row) o
  cell_there lane None at = refl
  cell_there lane (Some feed) at = one_cell feed (spanned lane feed at)

  same_cells : (λ lane. span_cell low high (slice_get feeds lane) k) ≡ cells_of g feeds (with_row variable (low + k) row)
  same_cells = fun_ext (λ lane. cell_there lane (slice_get feeds lane) refl)

-- what the kernels keep
pub span_kept : (g : Graph) (y : Typed) (condition : NamedExpr) (feeds : List Feed) (test : LaneTest) → DecidesRows g y condition feeds (Some test) →
    (variable low high : ℕ) → AreSpanned variable high feeds → (row : Assignment) → variable < length row.nodes → (old new : List Bool) → ((k : ℕ) → high - low ≤ k → is_marked old k ≡ false) →
    ((k : ℕ) → is_marked new k ≡ (is_marked old k && holds (λ lane. span_cell low high (slice_get feeds lane) k) test)) →
    (k : ℕ) → is_marked new k ≡ (is_marked old k && passes g (as_read y (with_row variable (low + k) row)) condition)
span_kept g y condition feeds test decides variable low high spanned row inside old new within kept k = elim (cases_lt k (high - low)) [
  | inl below ↦
      kept k ∙ ap (λ b. is_marked old k && b) (ap (λ cells. holds cells test) (same_cells g feeds variable low high spanned row inside k below) ∙ decides (with_row variable (low + k) row))
  | inr past ↦
      kept k ∙ ap (λ b. b && holds (λ lane. span_cell low high (slice_get feeds lane) k) test) (within k past)
      ∙ sym (ap (λ b. b && passes g (as_read y (with_row variable (low + k) row)) condition) (within k past))
]

-- the same of rows in a list
module _ (g : Graph) (feeds : List Feed) (variable : ℕ) (spanned : AreSpanned variable 0 feeds) (row : Assignment) (inside : variable < length row.nodes) (r : ℕ) where
  listed_cell : (feed : Feed) → IsSpanned variable 0 feed → feed_cell r (Some feed) ≡ cell_of g (with_row variable r row) (Some feed)
  listed_cell feed is = sym (ap (lane_of g (with_row variable r row) feed) is.of_node ∙ ap (cell_in feed.property.now.column) (put_in row.nodes variable r inside))

  listed_at : (lane : ℕ) (o : Option Feed) → slice_get feeds lane ≡ o → cells_at feeds r lane ≡ cells_of g feeds (with_row variable r row) lane
  listed_at lane None at = rw at refl
  listed_at lane (Some feed) at = rw at (listed_cell feed (spanned lane feed at))

  listed_cells : cells_at feeds r ≡ cells_of g feeds (with_row variable r row)
  listed_cells = fun_ext (λ lane. listed_at lane (slice_get feeds lane) refl)

pub list_kept : (g : Graph) (y : Typed) (condition : NamedExpr) (feeds : List Feed) (test : LaneTest) → DecidesRows g y condition feeds (Some test) →
    (variable : ℕ) → AreSpanned variable 0 feeds → (row : Assignment) → variable < length row.nodes → (rows : List ℕ) (old new : List Bool) →
    ((k : ℕ) → is_marked new k ≡ (is_marked old k && holds (cells_at feeds (slice_index rows k)) test)) →
    (k : ℕ) → is_marked new k ≡ (is_marked old k && passes g (as_read y (with_row variable (slice_index rows k) row)) condition)
list_kept g y condition feeds test decides variable spanned row inside rows old new kept k =
    kept k ∙ ap (λ b. is_marked old k && b) (ap (λ cells. holds cells test) (listed_cells g feeds variable spanned row inside (slice_index rows k)) ∙ decides (with_row variable (slice_index rows k) row))
