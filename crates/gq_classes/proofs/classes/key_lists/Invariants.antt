use Rattle.std.proofs.Common.{◌≡◌, ◌++◌}
use Rattle.gq_classes.specs.steps.Levels.{keys_of, lists_of}
use Rattle.gq_classes.proofs.classes.key_lists.Given as goal

abbrev pub invariant-levels : goal.invariant-levels
invariant-levels l = lists_of l.lists.items ++ keys_of l.level-iterator.rest.items ≡ keys_of l.fn.levels.items
