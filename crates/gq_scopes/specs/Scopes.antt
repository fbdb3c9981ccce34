-- What the expressions of a query may name, and what a name stands for there.
use Rattle.std.specs.Prelude.{ℕ, nat_eq, Bool, true, false, ◌||◌, Option, Some, None, List, [], map, slice_get}
use Rattle.std.specs.List.{position}
use Rattle.std.specs.Cmp.Lexicographic.{pointwise}
use Rattle.gq_expr.specs.declared.Expr.{Expr}
use Rattle.gq_expr.specs.declared.Expr.TheVariants as expr
use Rattle.gq_scopes.specs.Patterns.{Name, Pattern, find_name}
use Rattle.gq_scopes.specs.declared.scope.Column.{Column}

-- columns by themselves, and variables by themselves or with a property
pub record Scope : Type 0 where
  pub columns : List Column
  pub nodes : List (Option Name)
  pub rels : List (Option Name)

-- the variables of patterns, without columns
abbrev pub scope_of : Pattern → Scope
scope_of p = record { columns = []; nodes = p.names; rels = map (λ r. r.part.name) p.rels }

abbrev pub either_variable : Option ℕ → Option ℕ → Option Expr
either_variable None None = None
either_variable None (Some x) = Some (expr.Rel x)
either_variable (Some v) x = Some (expr.Node v)

-- the variable of a name
abbrev pub variable : Scope → Name → Option Expr
variable s name = either_variable (find_name s.nodes name) (find_name s.rels name)

abbrev pub either_property : Option ℕ → Option ℕ → Name → Option Expr
either_property None None key = None
either_property None (Some x) key = Some (expr.RelProperty x key)
either_property (Some v) x key = Some (expr.NodeProperty v key)

-- a property of a variable
abbrev pub property : Scope → Name → Name → Option Expr
property s name key = either_property (find_name s.nodes name) (find_name s.rels name) key

abbrev pub find_column : List Column → Name → Option ℕ
find_column columns name = position (λ c. pointwise nat_eq c.name name) columns

abbrev pub expr_of : Option Column → Option Expr
expr_of None = None
expr_of (Some column) = column.expr

abbrev pub column_or : Scope → Name → Option ℕ → Option Expr
column_or s name None = variable s name
column_or s name (Some at) = expr_of (slice_get s.columns at)

-- a bare name: the column of that name if there is one, else the variable
abbrev pub bare : Scope → Name → Option Expr
bare s name = column_or s name (find_column s.columns name)

abbrev pub is_there : {A : Type 0} → Option A → Bool
is_there None = false
is_there (Some x) = true

abbrev pub is_variable : Scope → Name → Bool
is_variable s name = is_there (find_name s.nodes name) || is_there (find_name s.rels name)

-- the scope has a name: by itself it may be a column or a variable
abbrev pub is_known : Scope → Name → Bool
is_known s name = is_there (find_column s.columns name) || is_variable s name
