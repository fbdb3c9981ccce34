use Rattle.std.proofs.Common.{refl}
use Rattle.gq_hops.proofs.search.Search.pass_over.Goals as goal

pub returns : goal.returns
returns c = record { level = c.passed-level.result; is = refl; told = c.passed-level.ensures }
