use Rattle.std.proofs.Common.{◌≡◌, take, map}
use Rattle.gq_scopes.specs.Renumbering.{placed_in}
use Rattle.gq_core.proofs.numbering.all_placed.Given as goal

abbrev pub invariant-loop-variable : goal.invariant-loop-variable
invariant-loop-variable l = l.placed ≡ map (placed_in l.order) (take l.variable-index l.variables)
