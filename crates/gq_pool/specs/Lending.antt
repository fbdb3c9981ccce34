-- Cells of a slot that are lent to be written.
use Rattle.std.specs.Prelude.{ℕ, ℤ, List}
use Rattle.std.specs.Borrow.{Lends, MutBor, Fml, Array, i64}
use Rattle.gq_pool.specs.Pool.{Pool, with_cells}
use Rattle.gq_pool.specs.contracts.VectorPool.{the_row}

-- the pool ends with the slot's cells as they are last behind r
abbrev pub LendsCells : MutBor Pool → ℕ → MutBor (List ℤ) → Fml
LendsCells p slot r = Lends the_row (Array i64 0) p r (with_cells p.now slot)
