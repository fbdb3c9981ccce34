-- The last entry of a component's cost table, as it is read.
use Rattle.std.specs.Prelude.{ℕ, ◌-◌, Option, Some, None, length, slice_index_or}
use Rattle.gq_least.specs.declared.checking.CostTable.{CostTable}
use Rattle.gq_least.specs.declared.ordering.ComponentOrder.{ComponentOrder}

abbrev pub last_in : Option CostTable → Option ℕ
last_in None = None
last_in (Some t) = slice_index_or t.costs (length t.costs - 1) None

abbrev pub last_cost : ComponentOrder → Option ℕ
last_cost o = last_in o.table
