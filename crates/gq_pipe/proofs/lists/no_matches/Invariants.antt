use Rattle.std.proofs.Common.{◌≡◌, length}
use Rattle.gq_pipe.proofs.lists.no_matches.Given as goal

abbrev pub invariant-loop : goal.invariant-loop
invariant-loop l = length l.matches.items ≡ l.counter
