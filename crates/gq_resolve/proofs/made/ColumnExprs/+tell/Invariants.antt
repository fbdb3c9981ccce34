use Rattle.std.proofs.Common.{◌≡◌, ◌-◌, ◌^◌, ◌&&◌, drop, max, min}
use Rattle.std.specs.List.{list_all}
use Rattle.gq_expr.specs.declared.Expr.{out-Expr}
use Rattle.gq_resolve.specs.Operands.{places}
use Rattle.gq_resolve.specs.steps.Depths.{depth}
use Rattle.gq_resolve.proofs.Walks.{depth_of, made_place}
use Rattle.gq_resolve.proofs.made.ColumnExprs.+tell.Given as goal

abbrev pub decreases-tell : goal.decreases-tell
decreases-tell l = depth l.expr.now

abbrev pub invariant-loop-place : goal.invariant-loop-place
invariant-loop-place l = record {
  made : (l.parts && list_all (made_place l.self) (drop l.place (places (out-Expr l.expr)))) ≡ list_all (made_place l.self) (places (out-Expr l.expr));
  deep : max l.below (min (depth_of (drop l.place (places (out-Expr l.expr)))) (2 ^ 64 - 1)) ≡ min (depth_of (places (out-Expr l.expr))) (2 ^ 64 - 1);
}
