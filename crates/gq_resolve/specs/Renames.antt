-- When AS gives the name of a variable to a column that is not that variable.
use Rattle.std.specs.Prelude.{nat_eq, Bool, false, not, ◌&&◌, Option, Some, None, List, [], ◌∷◌, flat_map, if◌then◌else◌}
use Rattle.std.specs.List.{list_any}
use Rattle.std.specs.Cmp.Lexicographic.{pointwise}
use Rattle.gq_expr.specs.declared.Expr.{Expr}
use Rattle.gq_ast.specs.declared.Ast.{Ast}
use Rattle.gq_ast.specs.declared.Item.{Item}
use Rattle.gq_resolve.specs.MadeOf.{same_expr}
use Rattle.gq_scopes.specs.Patterns.{Name}
use Rattle.gq_resolve.specs.Resolving.{functions, resolved}
use Rattle.gq_scopes.specs.Scopes.{Scope, is_variable, variable}
use Rattle.gq_resolve.specs.Uses.{Use, bare, owner, call, exists, refused_unless}

abbrev pub same_known : Option Expr → Option Expr → Bool
same_known None e = false
same_known (Some d) None = false
same_known (Some d) (Some e) = same_expr d e

-- a name is a variable, and a tree does not stand for it
abbrev pub gives_away : Scope → Ast → Name → Bool
gives_away s tree name = is_variable s name && not (same_known (resolved functions s tree) (variable s name))

abbrev pub renamed_as : Scope → Ast → Option Name → List Name
renamed_as s tree None = []
renamed_as s tree (Some name) = if gives_away s tree name then name ∷ [] else []

-- the names of variables that AS gives to other columns
abbrev pub renamed_names : Scope → List Item → List Name
renamed_names s items = flat_map (λ i. renamed_as s i.tree i.name) items

abbrev pub is_among : List Name → Name → Bool
is_among names name = list_any (λ n. pointwise nat_eq n name) names

-- a name, by itself or with a property, that stands among these
abbrev pub renamed_name : List Name → Use → Option Name
renamed_name names (bare name) = refused_unless (not (is_among names name)) name
renamed_name names (owner name) = refused_unless (not (is_among names name)) name
renamed_name names (call name arguments) = None
renamed_name names (exists path) = None

-- a name in ORDER BY, by itself or with a property, is a variable, and AS gives it to another column
abbrev pub ambiguous_name : Scope → List Item → Use → Option Name
ambiguous_name s items = renamed_name (renamed_names s items)
