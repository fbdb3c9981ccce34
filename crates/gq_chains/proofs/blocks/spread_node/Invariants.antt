use Rattle.std.proofs.Common.{◌≡◌, ◌+◌, ◌*◌, ◌<◌, ℕ}
use Rattle.std.specs.Prelude.{slice_index}
use Rattle.gq_chains.proofs.blocks.spread_node.Given as goal

abbrev pub invariant-loop-at : goal.invariant-loop-at
invariant-loop-at l = ((j : ℕ) → j < l.at → slice_index l.rows (64 * l.node + j) ≡ l.value) × ((i : ℕ) → i < 64 * l.node → slice_index l.rows i ≡ slice_index l.fn.rows i)
