-- The names, calls and EXISTS of an expression, in text order, and the first name that a check refuses.
use Rattle.std.specs.Prelude.{ℕ, nat_eq, Bool, true, false, not, ◌||◌, Option, Some, None, List, [], ◌∷◌, ◌++◌, map, flat_map, length, codes, if◌then◌else◌}
use Rattle.gq_ast.specs.Operands.{in_tester}
use Rattle.std.specs.Option.{option_or}
use Rattle.gq_ast.specs.declared.Ast.{Ast, fold-Ast}
use Rattle.gq_ast.specs.declared.AstNode.{AstNode}
use Rattle.gq_ast.specs.declared.AstNode.TheVariants as ast
use Rattle.gq_ast.specs.declared.Hop.{Hop}
use Rattle.gq_ast.specs.declared.Path.{Path}
use Rattle.gq_ast.specs.declared.Term.{Term}
use Rattle.gq_scopes.specs.Patterns.{Name, find_name}
use Rattle.gq_resolve.specs.Resolving.{is_function}
use Rattle.gq_scopes.specs.Scopes.{Scope, is_known, is_there, is_variable}

-- a name by itself, a name with a property, a call with a number of arguments, or an EXISTS of a path
pub data Use : Type 0 where
  bare : Name → Use
  owner : Name → Use
  call : Name → ℕ → Use
  exists : Path → Use

abbrev pub term_uses : {O : Type 0} → Term O (List Use) → List Use
term_uses t = t.tree

abbrev pub all_uses : List (List Use) → List Use
all_uses uss = flat_map (λ us. us) uss

-- one level of a tree, by the uses of its parts
abbrev pub uses_step : AstNode (List Use) → List Use
uses_step (ast.Literal l) = []
uses_step (ast.Variable name) = bare name ∷ []
uses_step (ast.Property name key) = owner name ∷ []
uses_step (ast.Call name uss) = call name (length uss) ∷ all_uses uss
uses_step (ast.Exists path) = exists path ∷ []
uses_step (ast.Paren us) = us
uses_step (ast.Negate us) = us
uses_step (ast.Plus us) = us
uses_step (ast.Not us) = us
uses_step (ast.Or uss) = all_uses uss
uses_step (ast.Xor uss) = all_uses uss
uses_step (ast.And uss) = all_uses uss
uses_step (ast.Compare us ts) = us ++ all_uses (map term_uses ts)
uses_step (ast.Test us ts) = us ++ all_uses (map in_tester ts)
uses_step (ast.Sum us ts) = us ++ all_uses (map term_uses ts)
uses_step (ast.Product us ts) = us ++ all_uses (map term_uses ts)

-- the names, calls and EXISTS of a tree, in text order
unfoldable pub uses : Ast → List Use
uses = fold-Ast (List Use) (λ a. uses_step a.node)

-- the first name that a check refuses
abbrev pub first_name : (Use → Option Name) → List Use → Option Name
first_name check [] = None
first_name check (u ∷ us) = option_or (check u) (first_name check us)

abbrev pub refused_unless : Bool → Name → Option Name
refused_unless true name = None
refused_unless false name = Some name

abbrev pub unless_variable : Scope → Option Name → Option Name
unless_variable s None = None
unless_variable s (Some name) = refused_unless (is_variable s name) name

abbrev pub unknown_in_hops : Scope → List Hop → Option Name
unknown_in_hops s [] = None
unknown_in_hops s (h ∷ hs) = option_or (unless_variable s h.rel.name) (option_or (unless_variable s h.node.name) (unknown_in_hops s hs))

-- the first name in a path that is no variable of the scope
abbrev pub unknown_in : Scope → Path → Option Name
unknown_in s path = option_or (unless_variable s path.first.name) (unknown_in_hops s path.hops)

abbrev pub unless_node : Scope → Option Name → Option Name
unless_node s None = None
unless_node s (Some name) = refused_unless (not (is_there (find_name s.nodes name))) name

abbrev pub unless_rel : Scope → Option Name → Option Name
unless_rel s None = None
unless_rel s (Some name) = refused_unless (not (is_there (find_name s.rels name))) name

abbrev pub conflict_in_hops : Scope → List Hop → Option Name
conflict_in_hops s [] = None
conflict_in_hops s (h ∷ hs) = option_or (unless_node s h.rel.name) (option_or (unless_rel s h.node.name) (conflict_in_hops s hs))

-- the first name of a path that is a node there and a relationship variable of the scope, or the other way round
abbrev pub conflict_in : Scope → Path → Option Name
conflict_in s path = option_or (unless_rel s path.first.name) (conflict_in_hops s path.hops)

-- the first relationship of a path that is a relationship variable of the scope
abbrev pub again_in : Scope → List Hop → Option Name
again_in s [] = None
again_in s (h ∷ hs) = option_or (unless_rel s h.rel.name) (again_in s hs)

-- a name that the scope does not have: by itself it may be a column or a variable, with a property and in a path a variable
abbrev pub unknown_name : Scope → Use → Option Name
unknown_name s (bare name) = refused_unless (is_known s name) name
unknown_name s (owner name) = refused_unless (is_variable s name) name
unknown_name s (call name arguments) = None
unknown_name s (exists path) = unknown_in s path

-- a name in a path that the scope has as a variable of the other form
abbrev pub of_other_form : Scope → Use → Option Name
of_other_form s (exists path) = conflict_in s path
of_other_form s u = None

-- a relationship variable of the scope, which a path would have again
abbrev pub named_again : Scope → Use → Option Name
named_again s (exists path) = again_in s path.hops
named_again s u = None

abbrev pub is_some_function : Name → Bool
is_some_function name = is_function name (codes "type") || is_function name (codes "coalesce")

-- a call that names no function
abbrev pub unknown_function : Use → Option Name
unknown_function (call name arguments) = refused_unless (is_some_function name) name
unknown_function u = None

-- `type` takes one argument, and `coalesce` one and more
abbrev pub takes : Name → ℕ → Bool
takes name arguments =
    if is_function name (codes "type") then nat_eq arguments 1 else if is_function name (codes "coalesce") then not (nat_eq arguments 0) else true

abbrev pub wrong_count : Use → Option Name
wrong_count (call name arguments) = refused_unless (takes name arguments) name
wrong_count u = None
