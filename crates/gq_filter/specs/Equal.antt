-- Properties of two nodes that a condition asks to be equal.
use Rattle.std.specs.Prelude.{ℕ, ℤ, ◌≡◌, Option, Some, None, slice_get}
use Rattle.gq_column.specs.Cells.{cell_at}
use Rattle.gq_plan.specs.declared.assignment.Assignment.{Assignment}
use Rattle.gq_filter.specs.declared.equalities.EqualColumns.{EqualColumns}
use Rattle.gq_filter.specs.declared.equalities.NodeColumn.{NodeColumn}

-- the cell that a row of the table has
abbrev pub row_cell : NodeColumn → ℕ → Option ℤ
row_cell c row = cell_at c.column.now row

abbrev pub cell_if : NodeColumn → Option ℕ → Option ℤ
cell_if c None = None
cell_if c (Some row) = row_cell c row

-- the cell that the variable has in a row of variables
abbrev pub node_cell : NodeColumn → Assignment → Option ℤ
node_cell c row = cell_if c (slice_get row.nodes c.node)

-- two cells are known, and equal
pub record AreOne (left right : Option ℤ) : Type 0 where
  pub value : ℤ
  pub left_is : left ≡ Some value
  pub right_is : right ≡ Some value

-- both variables have one value in a row of variables
abbrev pub HaveOne : EqualColumns → Assignment → Type 0
HaveOne e row = AreOne (node_cell e.left row) (node_cell e.right row)
