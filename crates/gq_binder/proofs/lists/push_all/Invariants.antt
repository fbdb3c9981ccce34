use Rattle.std.proofs.Common.{◌≡◌, ◌++◌}
use Rattle.gq_binder.proofs.lists.push_all.Given as goal

abbrev pub invariant-loop-expr : goal.invariant-loop-expr
invariant-loop-expr l = l.all ++ l.expr-iterator.rest.items ≡ l.fn.all ++ l.fn.more
