use Rattle.std.proofs.Common.{◌≡◌, drop}
use Rattle.std.specs.List.{list_any}
use Rattle.gq_resolve.specs.MadeOf.{same_expr}
use Rattle.gq_resolve.proofs.made.ColumnExprs.have.Given as goal

abbrev pub invariant-loop-own : goal.invariant-loop-own
invariant-loop-own l = list_any (same_expr l.expr) (drop l.own-index l.self) ≡ list_any (same_expr l.expr) l.self
