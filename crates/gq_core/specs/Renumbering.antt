-- Expressions with their variables numbered anew, as the variables stand in orders.
use Rattle.std.specs.Prelude.{ℕ, suc, is_some, List, [], ◌∷◌, if◌then◌else◌}
use Rattle.gq_expr.specs.declared.Expr.{Expr}
use Rattle.gq_scopes.specs.Patterns.{RelPattern}
use Rattle.gq_scopes.specs.Renumbering.{placed_in, renumbered}

-- each node variable is numbered by its place in one order, each relationship variable by its place in another
abbrev pub renumber : List ℕ → List ℕ → Expr → Expr
renumber nodes rels = renumbered (placed_in nodes) (placed_in rels)

-- the numbers of the relationship patterns that are no trails, from a number on
abbrev pub plain_from : ℕ → List RelPattern → List ℕ
plain_from number [] = []
plain_from number (r ∷ rs) = if is_some r.part.trail then plain_from (suc number) rs else number ∷ plain_from (suc number) rs
