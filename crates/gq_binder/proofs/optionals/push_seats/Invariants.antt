use Rattle.std.proofs.Common.{◌≡◌, ◌++◌, drop}
use Rattle.gq_bound.specs.Optionals.{seats}
use Rattle.gq_binder.proofs.optionals.push_seats.Given as goal

abbrev pub invariant-loop-name : goal.invariant-loop-name
invariant-loop-name l = l.all ++ seats l.scope.nodes l.free (drop l.name-index l.names) ≡ l.fn.all ++ seats l.scope.nodes l.first l.names
