-- The slots that the pipelines of side plans take.
use Rattle.std.specs.Prelude.{◌≤◌, List}
use Rattle.std.specs.List.{AllByRecursion}
use Rattle.gq_plan.specs.Columns.{columns_of}
use Rattle.gq_plan.specs.Plans.{Plan}
use Rattle.gq_plan.specs.declared.typed.Typed.{Typed}
use Rattle.gq_pool.specs.Pool.{Pool, spare_of}

-- a pool has as many free slots as each of these plans has columns; their pipelines run one after another
abbrev pub HasRoomForEach : Pool → Typed → List Plan → Type 0
HasRoomForEach p y sides = AllByRecursion (λ side. columns_of y side ≤ spare_of p) sides
