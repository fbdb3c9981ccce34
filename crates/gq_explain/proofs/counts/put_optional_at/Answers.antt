use Rattle.gq_explain.proofs.counts.put_optional_at.Goals as goal

pub returns-clause-bytes : goal.returns-clause-bytes
returns-clause-bytes g c = rw (← c.in-Some.ensures.value, ← c.len.ensures) c.put_part.ensures.bytes
