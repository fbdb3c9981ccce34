use Rattle.std.proofs.Common.{◌≡◌, true, take}
use Rattle.std.specs.List.{list_all}
use Rattle.gq_choices.specs.steps.Branching.{is_decided}
use Rattle.gq_choices.proofs.branching.first_open.Given as goal

abbrev pub invariant-loop-at : goal.invariant-loop-at
invariant-loop-at l = list_all is_decided (take l.at l.steps) ≡ true
