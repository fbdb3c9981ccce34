use Rattle.std.proofs.Common.{◌≡◌, ◌<◌, ◌+◌, ◌*◌, ℕ, get_or, length}
use Rattle.gq_base.specs.Values.{null, val}
use Rattle.gq_base.specs.declared.value.Value.TheVariants as value
use Rattle.gq_cells.proofs.cells.Cells.values_each.Given as goal

abbrev pub invariant-loop-place : goal.invariant-loop-place
invariant-loop-place l = record {
  size : length l.out ≡ 64;
  written : (k : ℕ) → k < l.place → val (get_or l.out k value.Null) ≡ get_or l.self.values (l.first + k * l.step) null;
}
