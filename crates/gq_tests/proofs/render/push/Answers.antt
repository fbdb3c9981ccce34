use Rattle.gq_kept.proofs.Chunking.{moved}
use Rattle.gq_tests.proofs.render.push.Goals as goal

pub returns-clause-stands : goal.returns-clause-stands
returns-clause-stands g c =
    let pushes = (rw c.in-Ok-Go.field-0-is at c.in-Ok-Go.ensures.pushes) in
    let stood = c.requires.stands in
    (_, moved c.args.table.now c.push_wide.new.self c.in-Ok-Go.ensures.query _ (pushes.0 stood.0 stood.1))
