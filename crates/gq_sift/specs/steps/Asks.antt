-- What is asked of the steps of a group behind its first one, when it is found how its places are.
use Rattle.std.specs.Prelude.{◌≡◌, ℕ, Some}
use Rattle.gq_sift.specs.declared.cuts.Ask.{Ask}
use Rattle.gq_sift.specs.declared.cuts.Ask.TheVariants as ask
use Rattle.gq_steps.specs.Levels.{Run, step_at}
use Rattle.gq_steps.specs.Tests.{IsListTest, RowsDecide, test_of}

-- the step at a depth is so; of what places may decide nothing more is said
abbrev pub IsAsked : Run → Ask → ℕ → Type 0
IsAsked c ask.Conditions d = (i : ℕ) × (test_of (step_at c d) ≡ Some i)
IsAsked c (ask.RowTests f) d = RowsDecide c d f
IsAsked c (ask.ListTests f) d = IsListTest c d f
IsAsked c (ask.Placed x) d = Unit {0}
