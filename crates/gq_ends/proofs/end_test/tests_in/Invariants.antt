use Rattle.std.specs.Prelude.{All}
use Rattle.gq_ends.specs.steps.Tests.{IsNeeded}
use Rattle.gq_ends.proofs.end_test.tests_in.Given as goal

abbrev pub invariant-tests : goal.invariant-tests
invariant-tests l = All (IsNeeded l.graph l.part l.table) l.tests.items
