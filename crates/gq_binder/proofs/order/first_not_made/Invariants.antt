use Rattle.std.proofs.Common.{◌≡◌, drop}
use Rattle.gq_bound.specs.Refusals.{out_of_scope_from}
use Rattle.gq_binder.proofs.order.first_not_made.Given as goal

abbrev pub invariant-loop-sort : goal.invariant-loop-sort
invariant-loop-sort l = out_of_scope_from l.item l.columns l.scope (drop l.sort-index l.order) ≡ out_of_scope_from 1 l.columns l.scope l.order
