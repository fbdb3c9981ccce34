use Rattle.std.proofs.Common.{◌≡◌, length}
use Rattle.gq_search.proofs.walker.Walker.new.Given as goal

abbrev pub invariant-loop : goal.invariant-loop
invariant-loop l = record { cursors : length l.cursors.items ≡ l.counter; marks : length l.marks.items ≡ l.counter }
