use Rattle.std.proofs.Common.{◌≡◌, ◌++◌, map}
use Rattle.gq_bound.specs.steps.Parts.{shared_in}
use Rattle.gq_binder.proofs.path_tests.push_tests.Given as goal

abbrev pub invariant-loop-named : goal.invariant-loop-named
invariant-loop-named l = l.all ++ map (shared_in l.scope.nodes) l.named-iterator.rest.items ≡ l.fn.all ++ map (shared_in l.scope.nodes) l.fn.more
