use Rattle.gq_tables.proofs.BatchSteps.{missing}
use Rattle.gq_tables.proofs.batch.end_of.Goals as goal

pub returns-in-None : goal.returns-in-None
returns-in-None c = λ text is. missing _ text _ is c.in-None.ensures.row
