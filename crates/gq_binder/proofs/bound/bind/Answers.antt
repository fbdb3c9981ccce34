use Rattle.gq_binder.proofs.Parted.{part_matches}
use Rattle.gq_binder.proofs.bound.bind.Goals as goal

pub returns-clause-parted : goal.returns-clause-parted
returns-clause-parted c = part_matches c.args.query.now c.args.text.now c.args.catalog.now c.bind_parts.result c.bind_parts.ensures
