use Rattle.gq_tables.proofs.KeySteps.{Mapped}
use Rattle.gq_tables.specs.steps.KeyIndexes.{held}
use Rattle.gq_tables.proofs.keys.index_rows.Given as goal

abbrev pub invariant-rows : goal.invariant-rows
invariant-rows l = Mapped l.rows l.at (held l.index)

abbrev pub decreases-rows : goal.decreases-rows
decreases-rows l = l.at
