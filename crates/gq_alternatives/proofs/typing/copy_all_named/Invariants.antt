use Rattle.std.proofs.Common.{◌≡◌, take}
use Rattle.gq_alternatives.proofs.typing.copy_all_named.Given as goal

abbrev pub invariant-loop-named : goal.invariant-loop-named
invariant-loop-named l = l.copies ≡ take l.named-index l.all
