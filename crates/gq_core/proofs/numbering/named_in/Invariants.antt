use Rattle.std.proofs.Common.{◌≡◌, take, map}
use Rattle.gq_law_cuts.specs.Cuts.{variable_in}
use Rattle.gq_scopes.specs.Patterns.{NamedVariable}
use Rattle.gq_core.proofs.numbering.named_in.Given as goal

abbrev pub invariant-loop-one : goal.invariant-loop-one
invariant-loop-one l = l.copies ≡ map (λ (n : NamedVariable). record n { variable = variable_in l.order n.variable }) (take l.one-index l.named)
