use Rattle.std.proofs.Common.{◌≡◌}
use Rattle.std.specs.Prelude.{flat_map}
use Rattle.gq_execute.specs.steps.Testing.{spent_on}
use Rattle.gq_execute.proofs.testing.spent_of_tests.Given as goal

abbrev pub invariant-loop-test : goal.invariant-loop-test
invariant-loop-test l = l.spent ≡ flat_map (λ s. s) (spent_on l.yielded)
