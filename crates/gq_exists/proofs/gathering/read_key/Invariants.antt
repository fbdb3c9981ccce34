use Rattle.std.proofs.Common.{◌≡◌}
use Rattle.gq_exists.specs.steps.Gathered.{key_at}
use Rattle.gq_exists.proofs.gathering.read_key.Given as goal

abbrev pub invariant-variables : goal.invariant-variables
invariant-variables l = l.key.items ≡ key_at l.typed l.variable l.chunk l.positions
