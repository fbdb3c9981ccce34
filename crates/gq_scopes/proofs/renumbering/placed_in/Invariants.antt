use Rattle.std.proofs.Common.{◌≡◌, ◌+◌, drop}
use Rattle.gq_scopes.specs.Renumbering.{placed_in}
use Rattle.gq_scopes.proofs.renumbering.placed_in.Given as goal

abbrev pub invariant-loop-other : goal.invariant-loop-other
invariant-loop-other l = l.at + placed_in (drop l.other-index l.order) l.variable ≡ placed_in l.order l.variable
