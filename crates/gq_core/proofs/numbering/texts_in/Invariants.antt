use Rattle.std.proofs.Common.{◌≡◌, [], take}
use Rattle.gq_law_cuts.specs.Cuts.{listed_in}
use Rattle.gq_core.proofs.numbering.texts_in.Given as goal

abbrev pub invariant-loop-variable : goal.invariant-loop-variable
invariant-loop-variable l = l.listed ≡ listed_in [] l.texts (take l.variable-index l.order)
