use Rattle.gq_pipe.specs.steps.Ahead.{AreUntold}
use Rattle.gq_pipe.proofs.closings.untold.Given as goal

abbrev pub invariant-loop : goal.invariant-loop
invariant-loop l = AreUntold l.aheads.items
