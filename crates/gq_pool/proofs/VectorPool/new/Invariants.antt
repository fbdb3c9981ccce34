use Rattle.std.proofs.Common.{◌≡◌, pos, vec_len}
use Rattle.std.specs.Prelude.{All}
use Rattle.gq_bits.specs.declared.TheConstants.{VECTOR}
use Rattle.gq_pool.proofs.VectorPool.new.Given as goal

abbrev pub invariant-loop : goal.invariant-loop
invariant-loop l = record {
  count : vec_len l.lanes ≡ l.counter;
  whole : All (λ lane. vec_len lane ≡ VECTOR) l.lanes.items;
  zero : All (λ lane. All (λ cell. cell ≡ pos 0) lane.items) l.lanes.items;
}
