use Rattle.std.proofs.Common.{◌≡◌, None, take}
use Rattle.gq_law_cuts.specs.Cuts.{listed_in}
use Rattle.gq_core.proofs.numbering.names_in.Given as goal

abbrev pub invariant-loop-variable : goal.invariant-loop-variable
invariant-loop-variable l = l.listed ≡ listed_in None l.names (take l.variable-index l.order)
