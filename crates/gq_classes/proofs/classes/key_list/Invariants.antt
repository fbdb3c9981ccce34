use Rattle.std.proofs.Common.{◌≡◌, ◌++◌}
use Rattle.gq_classes.proofs.classes.key_list.Given as goal

abbrev pub invariant-keys : goal.invariant-keys
invariant-keys l = l.list.items ++ l.key-iterator ≡ l.fn.level.keys.keys
