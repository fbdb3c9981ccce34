use Rattle.std.proofs.Common.{◌≡◌, ◌<◌, ◌≤◌, ◌||◌, ℕ}
use Rattle.gq_plan.specs.Known.{set_of}
use Rattle.gq_plan.proofs.known.VariableSet.insert_all.Given as goal

abbrev pub invariant-loop-at : goal.invariant-loop-at
invariant-loop-at l = record {
  taken : (v : ℕ) → v < l.at → set_of l.self v ≡ (set_of l.other v || set_of l.fn.self v);
  kept : (v : ℕ) → l.at ≤ v → set_of l.self v ≡ set_of l.fn.self v;
}
