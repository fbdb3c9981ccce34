-- What a table has taken of outcomes that are pushed one after another.
use Rattle.std.specs.Prelude.{◌≡◌, Result, List, ◌++◌}
use Rattle.gq_expr.specs.declared.Fault.{Fault}
use Rattle.gq_plan.specs.Outcomes.{Row}
use Rattle.gq_kept.specs.Chunks.{Stands}
use Rattle.gq_kept.specs.Tables.{Table}

-- a table took some of these outcomes; the others are left
pub record Taken (all left : List (Result Row Fault)) (old now : Table) : Type 0 where
  pub taken : List (Result Row Fault)
  pub whole : all ≡ taken ++ left
  pub stands : (before : List (Result Row Fault)) → Stands before old → Stands (before ++ taken) now
