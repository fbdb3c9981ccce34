-- What the maps of patterns ask, as tests: a property of an entry's variable equals the entry's literal (openCypher 9; what a test is
-- called is this project's profile).
use Rattle.std.specs.Prelude.{ℕ, List, [], ◌∷◌, ◌++◌, codes}
use Rattle.gq_base.specs.declared.CompareOp.TheVariants as compare
use Rattle.gq_expr.specs.declared.Expr.{Expr}
use Rattle.gq_expr.specs.declared.Expr.TheVariants as expr
use Rattle.gq_ast.specs.Sources.{source_text}
use Rattle.gq_plan.specs.declared.NamedExpr.{NamedExpr}
use Rattle.gq_plan.specs.declared.variable.Variable.{Variable}
use Rattle.gq_plan.specs.declared.variable.Variable.TheVariants.{Node as node, Rel as rel}
use Rattle.gq_scopes.specs.Patterns.{MapEntry, Name}

abbrev pub property_of : Variable → Name → Expr
property_of (node v) name = expr.NodeProperty v name
property_of (rel x) name = expr.RelProperty x name

-- a property of a map entry's variable equals the entry's literal
abbrev pub entry_expr : MapEntry → Expr
entry_expr e = expr.Compare (property_of e.variable e.entry.key) (record { op = compare.Equal; expr = expr.Literal e.entry.value } ∷ [])

-- it is called `v.k = c`, with c as it is written
abbrev pub entry_test : List ℕ → MapEntry → NamedExpr
entry_test text e = record { name = e.called ++ (codes "." ++ (e.entry.key ++ (codes " = " ++ source_text text e.entry.value_span))); expr = entry_expr e }
