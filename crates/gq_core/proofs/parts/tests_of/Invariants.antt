use Rattle.std.proofs.Common.{◌≡◌, take, filter, map}
use Rattle.gq_core.specs.Entries.{entry_test}
use Rattle.gq_law_reaches.specs.Core.{is_node_at}
use Rattle.gq_scopes.specs.Patterns.{MapEntry}
use Rattle.gq_core.proofs.parts.tests_of.Given as goal

abbrev pub invariant-loop-entry : goal.invariant-loop-entry
invariant-loop-entry l =
    l.tests ≡ map (entry_test l.text) (filter (λ (e : MapEntry). is_node_at l.to e.variable) (take l.entry-index l.entries))
