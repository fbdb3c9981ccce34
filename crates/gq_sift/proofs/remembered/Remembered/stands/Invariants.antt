use Rattle.std.proofs.Common.{◌≡◌, ◌≢◌, ◌<◌, ℕ, true}
use Rattle.std.specs.Prelude.{slice_index}
use Rattle.gq_plan.specs.Known.{set_of}
use Rattle.gq_sift.proofs.remembered.Remembered.stands.Given as goal

abbrev pub invariant-loop-node : goal.invariant-loop-node
invariant-loop-node l = (v : ℕ) → v < l.node → set_of l.self.reads.nodes v ≡ true → v ≢ l.self.follow.to → slice_index l.self.rows.items v ≡ slice_index l.fn.row.nodes v
