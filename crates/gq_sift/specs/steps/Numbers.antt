-- Places of a list that those of a group's steps keep which load numbers decide.
use Rattle.std.specs.Prelude.{ℕ, ◌+◌, Bool, true, not, slice_get, slice_index}
use Rattle.gq_plan.specs.Meaning.{holds}
use Rattle.gq_plan.specs.Plans.{Step, Differ}
use Rattle.gq_plan.specs.Rows.{rel_table}
use Rattle.gq_plan.specs.declared.assignment.Assignment.{Assignment}
use Rattle.gq_sift.specs.steps.Candidates.{leads_to}
use Rattle.gq_steps.specs.Tests.{other_of}
use Rattle.gq_steps.specs.Levels.{Run, step_at}
use Rattle.gq_plan.specs.declared.follow.Follow.{Follow}
use Rattle.gq_store.specs.Neighbours.{numbers}

-- a step keeps a place by the load number there: it is not that of the other relationship of a pair
abbrev pub numbers_keep : Run → Follow → Assignment → ℕ → Step → Bool
numbers_keep c f row place (Differ p) =
    holds (λ pair. not (leads_to (numbers c.graph (rel_table c.typed f.rel) f.direction (slice_index row.nodes f.from)) place (slice_index row.rels (other_of f.rel pair)))) (slice_get c.typed.pairs p)
numbers_keep c f row place s = true

-- the step at a depth keeps a place behind a first one by the load number there
abbrev pub by_numbers : Run → Follow → ℕ → Assignment → ℕ → ℕ → Bool
by_numbers c f first row d j = numbers_keep c f row (first + j) (step_at c d)
