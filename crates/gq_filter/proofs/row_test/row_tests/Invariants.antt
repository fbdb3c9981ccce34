use Rattle.std.proofs.Common.{◌≡◌, map, take}
use Rattle.gq_filter.specs.RowTests.{condition_over}
use Rattle.gq_filter.proofs.row_test.row_tests.Given as goal

abbrev pub invariant-loop-condition : goal.invariant-loop-condition
invariant-loop-condition l = l.tests.items ≡ map (condition_over l.graph l.typed) (take l.condition-index l.condition-items)
