-- The law that with DISTINCT an outcome which stands in a listing may stand there again: a table that stands for the one listing stands
-- for the other too.
use Rattle.std.specs.Prelude.{◌≡◌, ℕ, true, Result, List, ◌++◌}
use Rattle.std.specs.List.{AllByRecursion, Contains}
use Rattle.gq_expr.specs.declared.Fault.{Fault}
use Rattle.gq_kept.specs.Tables.{Held, StandsFor}
use Rattle.gq_plan.specs.Outcomes.{Row}
use Rattle.gq_plan.specs.declared.bound.Bound.{Bound}

abbrev pub StandsAgain : Type 0
StandsAgain =
    (b : Bound) (most : ℕ) (pushed again : List (Result Row Fault)) (h : Held)
    → b.distinct ≡ true → AllByRecursion (Contains pushed) again → StandsFor b most pushed h → StandsFor b most (pushed ++ again) h
