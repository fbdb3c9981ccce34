use Rattle.std.proofs.Common.{◌≡◌, ◌<◌, ℕ, None, get_or, length}
use Rattle.gq_base.specs.Plain.{cell_val}
use Rattle.gq_base.specs.Values.{val}
use Rattle.gq_base.specs.declared.value.Value.TheVariants as value
use Rattle.gq_store.specs.Columns.{decoded}
use Rattle.gq_cells.proofs.source.property_values.Given as goal

abbrev pub invariant-loop-place : goal.invariant-loop-place
invariant-loop-place l = record {
  size : length l.out ≡ 64;
  written : (k : ℕ) → k < l.place → val (get_or l.out k value.Null) ≡ cell_val (get_or (decoded l.property) (get_or l.numbers k 0) None);
}
