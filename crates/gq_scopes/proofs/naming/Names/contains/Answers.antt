use Rattle.std.proofs.Common.{◌∙◌, ap}
use Rattle.std.specs.Prelude.{is_some}
use Rattle.gq_scopes.specs.Patterns.{is_called}
use Rattle.gq_scopes.proofs.NamingLemmas.{listed}
use Rattle.gq_scopes.proofs.naming.Names.contains.Goals as goal

pub returns : goal.returns
returns c = c.is_some.ensures ∙ ap is_some c.find.ensures.value ∙ listed (is_called c.args.name.now) c.args.self.now
