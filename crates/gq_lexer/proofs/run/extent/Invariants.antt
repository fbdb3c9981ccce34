use Rattle.std.proofs.Common.{◌≡◌, ◌+◌, ◌-◌, ◌≤◌, length, drop}
use Rattle.gq_lexer.specs.Runs.{run}
use Rattle.gq_lexer.proofs.run.extent.Given as goal

abbrev pub invariant-pieces : goal.invariant-pieces
invariant-pieces l = (l.size ≤ length l.rest) × ((run l.form l.rest).size ≡ l.size + (run l.form (drop l.size l.rest)).size)

abbrev pub decreases-pieces : goal.decreases-pieces
decreases-pieces l = length l.rest - l.size
