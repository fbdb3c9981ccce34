use Rattle.gq_tables.proofs.KeySteps.{Mapped}
use Rattle.gq_tables.specs.steps.NearKeys.{near}
use Rattle.gq_tables.proofs.near_keys.NearKeys.with_rows.Given as goal

abbrev pub invariant-rows : goal.invariant-rows
invariant-rows l = Mapped l.rows l.at (near l.self)

abbrev pub decreases-rows : goal.decreases-rows
decreases-rows l = l.at
