use Rattle.std.proofs.Common.{◌≡◌, take}
use Rattle.std.specs.List.{list_any}
use Rattle.gq_choices.specs.steps.Narrowing.{has}
use Rattle.gq_choices.specs.steps.Searching.{suits}
use Rattle.gq_choices.proofs.narrowing.supported.Given as goal

abbrev pub invariant-loop-reading : goal.invariant-loop-reading
invariant-loop-reading l = has l.tables ≡ (λ t. list_any (suits l.catalog l.variable t l.step-inside.pattern.now) (take l.reading-index l.reading-items))
