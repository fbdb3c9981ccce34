use Rattle.std.proofs.Common.{◌≡◌, drop}
use Rattle.gq_resolve.specs.Checks.{check_of}
use Rattle.gq_bound.specs.Refusals.{first_in, sorts_in}
use Rattle.gq_binder.proofs.order.first_in_sorts.Given as goal

abbrev pub invariant-loop-sort : goal.invariant-loop-sort
invariant-loop-sort l = first_in (check_of l.check) (sorts_in l.scope (drop l.sort-index l.order)) ≡ first_in (check_of l.check) (sorts_in l.scope l.order)
