-- How deep an expression is: one level more than its deepest operand.
use Rattle.std.specs.Prelude.{ℕ, suc, ◌-◌, ◌^◌, max, min, Option, Some, None, List, [], ◌∷◌}
use Rattle.gq_expr.specs.declared.Expr.{Expr}
use Rattle.gq_resolve.specs.Operands.{Step, walk}

abbrev pub deepest : List (Option ℕ) → ℕ
deepest [] = 0
deepest (None ∷ ns) = deepest ns
deepest (Some n ∷ ns) = max n (deepest ns)

abbrev below : Step ℕ
below e ns = suc (deepest ns)

unfoldable pub depth : Expr → ℕ
depth = walk below

-- the same as it is counted, up to the greatest number of 64 bits
abbrev pub told_depth : Expr → ℕ
told_depth e = min (depth e) (2 ^ 64 - 1)
