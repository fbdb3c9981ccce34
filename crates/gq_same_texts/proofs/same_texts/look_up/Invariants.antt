use Rattle.std.proofs.Common.{◌≡◌, length}
use Rattle.gq_same_texts.specs.steps.Codes.{AreCodesIn}
use Rattle.gq_same_texts.proofs.same_texts.look_up.Given as goal

abbrev pub invariant-loop-code : goal.invariant-loop-code
invariant-loop-code l = record {
  are : AreCodesIn l.from l.to l.codes.items;
  many : length l.codes.items ≡ l.code;
}
