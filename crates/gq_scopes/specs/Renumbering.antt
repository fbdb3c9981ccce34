-- Expressions with their variables numbered anew.
use Rattle.std.specs.Prelude.{ℕ, suc, nat_eq, List, [], ◌∷◌, if◌then◌else◌}
use Rattle.gq_expr.specs.declared.Expr.{Expr, Expr-F, fold-Expr}
use Rattle.gq_expr.specs.declared.Expr.TheVariants as expr
use Rattle.gq_scopes.specs.declared.renumbering.Numbering.{Numbering}
use Rattle.gq_scopes.specs.declared.renumbering.Numbering.TheVariants as numbering

-- where a variable stands in an order
abbrev pub placed_in : List ℕ → ℕ → ℕ
placed_in [] v = 0
placed_in (w ∷ ws) v = if nat_eq v w then 0 else suc (placed_in ws v)

-- the new numbers of node variables, and those of relationship variables
abbrev pub node_number : Numbering → ℕ → ℕ
node_number numbering.Same = λ v. v
node_number (numbering.Placed orders) = placed_in orders.nodes.now

abbrev pub rel_number : Numbering → ℕ → ℕ
rel_number numbering.Same = λ x. x
rel_number (numbering.Placed orders) = placed_in orders.rels.now

-- one level of an expression, by its parts
abbrev pub renumbered_step : (ℕ → ℕ) → (ℕ → ℕ) → Expr-F Expr → Expr
renumbered_step nodes rels (Expr-F.Literal l) = expr.Literal l
renumbered_step nodes rels (Expr-F.Node v) = expr.Node (nodes v)
renumbered_step nodes rels (Expr-F.Rel x) = expr.Rel (rels x)
renumbered_step nodes rels (Expr-F.NodeProperty v name) = expr.NodeProperty (nodes v) name
renumbered_step nodes rels (Expr-F.RelProperty x name) = expr.RelProperty (rels x) name
renumbered_step nodes rels (Expr-F.TypeName e) = expr.TypeName e
renumbered_step nodes rels (Expr-F.Coalesce es) = expr.Coalesce es
renumbered_step nodes rels (Expr-F.Negate e) = expr.Negate e
renumbered_step nodes rels (Expr-F.Plus e) = expr.Plus e
renumbered_step nodes rels (Expr-F.Not e) = expr.Not e
renumbered_step nodes rels (Expr-F.Or es) = expr.Or es
renumbered_step nodes rels (Expr-F.Xor es) = expr.Xor es
renumbered_step nodes rels (Expr-F.And es) = expr.And es
renumbered_step nodes rels (Expr-F.Compare e ts) = expr.Compare e ts
renumbered_step nodes rels (Expr-F.Test e ts) = expr.Test e ts
renumbered_step nodes rels (Expr-F.Arith e ts) = expr.Arith e ts

-- node variables are numbered anew by one function, and relationship variables by another
unfoldable pub renumbered : (ℕ → ℕ) → (ℕ → ℕ) → Expr → Expr
renumbered nodes rels = fold-Expr Expr (renumbered_step nodes rels)
