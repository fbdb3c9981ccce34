use Rattle.gq_tables.specs.steps.KeyIndexes.{held}
use Rattle.gq_tables.proofs.KeySteps.{Keyed}
use Rattle.gq_tables.proofs.repeats.repeat_in_slots.Given as goal

abbrev pub invariant-loop-at : goal.invariant-loop-at
invariant-loop-at l = Keyed l.rows l.at (held l.index)
