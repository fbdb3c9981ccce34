use Rattle.std.proofs.Common.{◌≡◌, ℕ, None}
use Rattle.std.specs.Prelude.{slice_get}
use Rattle.gq_ends.specs.steps.Answers.{in_table}
use Rattle.gq_ends.proofs.trail_end.room_for.Given as goal

abbrev pub invariant-tables : goal.invariant-tables
invariant-tables l = (i row : ℕ) → in_table (slice_get l.answers.items i) row ≡ None
