use Rattle.std.proofs.Common.{◌≡◌, filter, take}
use Rattle.gq_choices.specs.steps.Narrowing.{ends_in, has}
use Rattle.gq_choices.proofs.narrowing.standing.Given as goal

abbrev pub invariant-loop-reading : goal.invariant-loop-reading
invariant-loop-reading l = l.kept ≡ filter (ends_in l.catalog (has l.left) (has l.right)) (take l.reading-index l.readings)
