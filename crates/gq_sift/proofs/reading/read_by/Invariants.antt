use Rattle.std.proofs.Common.{◌≡◌, ℕ, false}
use Rattle.gq_plan.specs.Known.{set_of}
use Rattle.gq_sift.proofs.reading.read_by.Given as goal

abbrev pub invariant-loop-node : goal.invariant-loop-node
invariant-loop-node l = (x : ℕ) → set_of l.reads.rels x ≡ false
