use Rattle.std.proofs.Common.{subst}
use Rattle.gq_store.specs.Columns.{Encoded, IsDictOf, decoded}
use Rattle.gq_store.proofs.property.Property.dict.Goals as goal

pub returns-clause-texts : goal.returns-clause-texts
returns-clause-texts c = subst (λ (e : Encoded). IsDictOf (decoded e) c.self.inside.dict) c.self.view_is c.self.invariant.dict_of
