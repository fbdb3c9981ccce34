use Rattle.std.proofs.Common.{◌≡◌, ◌+◌, ◌*◌, flat_map, take}
use Rattle.gq_choices.specs.steps.Branching.{deciding}
use Rattle.gq_choices.specs.steps.Searching.{adding, agreeing}
use Rattle.gq_choices.proofs.branching.+branch.Given as goal

abbrev pub decreases-branch : goal.decreases-branch
decreases-branch l = 3 * l.depth + 1

abbrev pub decreases-branch_among : goal.decreases-branch_among
decreases-branch_among l = 3 * l.depth

abbrev pub decreases-branch_at : goal.decreases-branch_at
decreases-branch_at l = 3 * l.depth + 2

abbrev pub invariant-branch_at-loop-reading : goal.invariant-branch_at-loop-reading
invariant-branch_at-loop-reading l =
    l.found
    ≡ adding l.most
    (flat_map (λ c. agreeing l.catalog (deciding l.at c l.candidates.steps) l.candidates.tables)
    (take l.reading-index l.readings))
    l.fn.found
