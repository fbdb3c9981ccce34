use Rattle.std.proofs.Common.{◌≡◌, vec_len}
use Rattle.gq_tables.proofs.batch.new_batch.Given as goal

abbrev pub invariant-loop-place : goal.invariant-loop-place
invariant-loop-place l = vec_len l.batch ≡ l._place
