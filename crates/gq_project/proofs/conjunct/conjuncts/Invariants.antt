use Rattle.std.proofs.Common.{◌≡◌, take}
use Rattle.gq_eval.specs.Asked.{asked_of}
use Rattle.gq_project.proofs.conjunct.conjuncts.Given as goal

abbrev pub invariant-named : goal.invariant-named
invariant-named l = l.all ≡ asked_of l.graph (take l.one-index l.named)
