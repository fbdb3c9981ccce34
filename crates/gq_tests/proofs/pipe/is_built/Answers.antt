use Rattle.gq_pipe.proofs.Rooms.{most_rooms}
use Rattle.gq_plan.specs.Plans.{plan_of}
use Rattle.gq_tests.proofs.pipe.is_built.Goals as goal

pub make_builds-requires-clause-room : goal.make_builds-requires-clause-room
make_builds-requires-clause-room g c =
    most_rooms c.args.pool.now c.args.typed.now c.args.graph.now.catalog c.requires.sound c.requires.slots (plan_of c.args.plan.now) c.requires.fits
