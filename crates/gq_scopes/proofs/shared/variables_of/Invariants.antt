use Rattle.std.proofs.Common.{◌≡◌, ◌++◌, drop}
use Rattle.std.specs.Prelude.{filter_map}
use Rattle.gq_scopes.specs.Patterns.{find_name}
use Rattle.gq_scopes.proofs.shared.variables_of.Given as goal

abbrev pub invariant-loop-name : goal.invariant-loop-name
invariant-loop-name l = l.variables ++ filter_map (find_name l.scope.nodes) (drop l.name-index l.names) ≡ filter_map (find_name l.scope.nodes) l.names
