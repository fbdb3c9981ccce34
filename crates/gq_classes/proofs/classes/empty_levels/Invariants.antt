use Rattle.std.proofs.Common.{◌≡◌, [], replicate}
use Rattle.gq_classes.specs.steps.Levels.{keys_of}
use Rattle.gq_classes.proofs.classes.empty_levels.Given as goal

abbrev pub invariant-levels : goal.invariant-levels
invariant-levels l = keys_of l.levels.items ≡ replicate l.counter []
