use Rattle.std.proofs.Common.{◌≡◌, ◌+◌, ◌*◌, ◌<◌, ℕ}
use Rattle.std.specs.Prelude.{slice_index}
use Rattle.gq_chains.proofs.blocks.spread.Given as goal

abbrev pub invariant-loop-node : goal.invariant-loop-node
invariant-loop-node l = (v : ℕ) → v < l.node → (j : ℕ) → j < 64 → slice_index l.rows (64 * v + j) ≡ slice_index l.row.nodes v
