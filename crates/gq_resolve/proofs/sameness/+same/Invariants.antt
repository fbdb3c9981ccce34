use Rattle.std.proofs.Common.{◌≡◌, drop}
use Rattle.std.specs.Cmp.Lexicographic.{pointwise}
use Rattle.gq_expr.specs.declared.Expr.{out-Expr}
use Rattle.gq_resolve.specs.Operands.{places}
use Rattle.gq_resolve.proofs.Walks.{same_place}
use Rattle.gq_resolve.specs.steps.Depths.{depth}
use Rattle.gq_resolve.proofs.sameness.+same.Given as goal

abbrev pub decreases-same : goal.decreases-same
decreases-same l = depth l.expr.now

abbrev pub invariant-loop-place : goal.invariant-loop-place
invariant-loop-place l =
    pointwise same_place (drop l.place (places (out-Expr l.expr))) (drop l.place (places (out-Expr l.other)))
    ≡ pointwise same_place (places (out-Expr l.expr)) (places (out-Expr l.other))
