use Rattle.gq_reply.proofs.query.write_fault.Goals as goal

pub returns-clause-bytes : goal.returns-clause-bytes
returns-clause-bytes g c = rw c.name.ensures at c.write_error.ensures.bytes
