use Rattle.std.proofs.Common.{arith}
use Rattle.std.proofs.lemmas.Grind.{common_steps}
use Rattle.gq_scopes.proofs.naming.Names.find.Goals as goal

pub returns-clause-value : goal.returns-clause-value
returns-clause-value c = grind (arith, common_steps, c.self.invariant c.args.name.now, c.get.ensures.value)

pub returns-clause-within : goal.returns-clause-within
returns-clause-within c = grind (arith, common_steps, c.self.invariant c.args.name.now, c.get.ensures.value)
