use Rattle.gq_pipe.proofs.Rooms.{spare_same}
use Rattle.std.proofs.Common.{arith}
use Rattle.gq_execute.proofs.prepared.prepare.Goals as goal

pub list_clauses-requires-clause-placed : goal.list_clauses-requires-clause-placed
list_clauses-requires-clause-placed c = rw (c.len-nodes.ensures, c.len-rels.ensures, c.as_slice-parts.ensures) c.requires.placed

pub list_clauses-requires-clause-slots : goal.list_clauses-requires-clause-slots
list_clauses-requires-clause-slots c = omega (arith, c.requires.slots, spare_same c.args.pool.now c.tests_of.new.pool c.tests_of.ensures.slots)
