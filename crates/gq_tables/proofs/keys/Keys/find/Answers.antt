use Rattle.gq_tables.proofs.KeySteps.{no_null}
use Rattle.gq_tables.proofs.keys.Keys.find.Goals as goal

pub returns-clause-null : goal.returns-clause-null
returns-clause-null c = no_null c.args.self.now.end.rows.now
