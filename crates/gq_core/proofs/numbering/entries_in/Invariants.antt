use Rattle.std.proofs.Common.{◌≡◌, take, map}
use Rattle.gq_law_cuts.specs.Cuts.{variable_in}
use Rattle.gq_scopes.specs.Patterns.{MapEntry}
use Rattle.gq_core.proofs.numbering.entries_in.Given as goal

abbrev pub invariant-loop-entry : goal.invariant-loop-entry
invariant-loop-entry l = l.copies ≡ map (λ (e : MapEntry). record e { variable = variable_in l.order e.variable }) (take l.entry-index l.entries)
