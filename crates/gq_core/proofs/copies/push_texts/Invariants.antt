use Rattle.std.proofs.Common.{◌≡◌, ◌++◌, take}
use Rattle.gq_core.proofs.copies.push_texts.Given as goal

abbrev pub invariant-loop-text : goal.invariant-loop-text
invariant-loop-text l = l.all ≡ l.fn.all ++ take l.text-index l.texts
