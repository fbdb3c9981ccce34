use Rattle.std.proofs.Common.{◌≡◌, [], replicate}
use Rattle.gq_plain.proofs.empty_rels.Given as goal

abbrev pub invariant-loop : goal.invariant-loop
invariant-loop l = l.tables.items ≡ replicate l.counter []
