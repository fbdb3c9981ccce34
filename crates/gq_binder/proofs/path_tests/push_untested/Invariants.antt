use Rattle.std.proofs.Common.{◌≡◌, ◌++◌, map}
use Rattle.gq_bound.specs.Tested.{stray_test}
use Rattle.gq_binder.proofs.path_tests.push_untested.Given as goal

abbrev pub invariant-loop-test : goal.invariant-loop-test
invariant-loop-test l = l.all ++ map (stray_test l.scope.nodes) l.test-iterator.rest.items ≡ l.fn.all ++ map (stray_test l.scope.nodes) l.fn.more
