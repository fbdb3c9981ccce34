use Rattle.std.proofs.Common.{refl}
use Rattle.gq_hops.proofs.search.Search.begin.Goals as goal

pub returns : goal.returns
returns c = record { level = c.level_at.result; is = refl; fits = c.level_at.ensures.level; start = c.level_at.ensures.start }
