use Rattle.std.proofs.Common.{◌≡◌, ◌<◌, ◌≤◌, ℕ, pos, get_or}
use Rattle.gq_column.proofs.copy_rows.Given as goal

abbrev pub invariant-loop-place : goal.invariant-loop-place
invariant-loop-place l = record {
  written : (k : ℕ) → k < l.place → get_or l.out k (pos 0) ≡ get_or l.cells (get_or l.rows k 0) (pos 0);
  rest : (k : ℕ) → l.place ≤ k → get_or l.out k (pos 0) ≡ get_or l.initial.out k (pos 0);
}
