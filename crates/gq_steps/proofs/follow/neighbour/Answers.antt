use Rattle.std.proofs.Common.{sym, arith}
use Rattle.std.proofs.lemmas.Option.{slice_get_past}
use Rattle.gq_store.specs.Neighbours.{neighbours}
use Rattle.gq_steps.proofs.follow.neighbour.Goals as goal

pub returns-else-place-eq0-clause-found : goal.returns-else-place-eq0-clause-found
returns-else-place-eq0-clause-found c =
    sym (slice_get_past (neighbours c.args.graph.now c.args.table c.args.direction c.args.row) c.args.place (omega (arith, c.single-only.ensures.one)))
