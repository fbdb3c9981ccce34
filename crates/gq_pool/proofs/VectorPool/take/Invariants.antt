use Rattle.std.proofs.Common.{◌≡◌, ℕ, ◌<◌, get_or, true}
use Rattle.gq_pool.proofs.VectorPool.take.Given as goal

abbrev pub invariant-loop-i : goal.invariant-loop-i
invariant-loop-i l = record {
  kept : l.self-inside ≡ l.initial.self-inside;
  out : (k : ℕ) → k < l.i → get_or l.self-inside.out.items k true ≡ true;
}
