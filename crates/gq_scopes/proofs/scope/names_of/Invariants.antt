use Rattle.std.proofs.Common.{◌≡◌, Some, map, take}
use Rattle.gq_scopes.proofs.scope.names_of.Given as goal

abbrev pub invariant-loop-column : goal.invariant-loop-column
invariant-loop-column l = l.names ≡ map (λ c. Some c.name) (take l.column-index l.columns)
