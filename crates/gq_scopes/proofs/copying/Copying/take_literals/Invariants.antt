use Rattle.std.proofs.Common.{◌≤◌}
use Rattle.gq_scopes.proofs.copying.Copying.take_literals.Given as goal

abbrev pub invariant-loop-literal : goal.invariant-loop-literal
invariant-loop-literal l = l.self ≤ l.initial.self
