use Rattle.gq_tables.specs.steps.NearKeys.{near}
use Rattle.gq_tables.proofs.KeySteps.{Keyed}
use Rattle.gq_tables.proofs.repeats.near_repeat.Given as goal

abbrev pub invariant-loop-at : goal.invariant-loop-at
invariant-loop-at l = Keyed l.rows l.at (near l.index)
