use Rattle.gq_ends.proofs.Missing.{missing_fails}
use Rattle.gq_ends.proofs.end_test.is_missing.Goals as goal

pub returns-in-Some : goal.returns-in-Some
returns-in-Some c told row =
    missing_fails c.args.graph.now c.args.part.now.to c.args.table row c.args.asked.now c.in-Some.name.now (rw c.get.ensures at c.in-Some.ensures) (c.lacks.ensures told)
