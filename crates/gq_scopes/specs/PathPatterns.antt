-- The pattern of a path by itself, which a query tests: its first node variables are those of the query that the path names.
use Rattle.std.specs.Prelude.{Option, Some, None, List, [], ◌∷◌, ◌++◌, if◌then◌else◌}
use Rattle.std.specs.List.{list_any}
use Rattle.gq_scopes.specs.Patterns.{Name, Pattern, is_called, no_pattern, with_path}
use Rattle.gq_ast.specs.declared.Hop.{Hop}
use Rattle.gq_ast.specs.declared.Path.{Path}

-- a variable with this name, unless there is one
abbrev pub with_name : Option Name → Pattern → Pattern
with_name None p = p
with_name (Some name) p =
    if list_any (is_called name) p.names then p else record p {
      names = p.names ++ Some name ∷ [];
      node_names = p.node_names ++ name ∷ [];
    }

abbrev pub with_names : List Hop → Pattern → Pattern
with_names [] p = p
with_names (h ∷ hs) p = with_names hs (with_name h.node.name p)

-- a variable for each name of the path's nodes, in the order of their first appearance
abbrev pub named_first : Path → Pattern
named_first path = with_names path.hops (with_name path.first.name no_pattern)

-- these names
abbrev pub shared_names : Path → List Name
shared_names path = (named_first path).node_names

-- the pattern of a path by itself
unfoldable pub path_pattern : Path → Pattern
path_pattern path = with_path 0 path (named_first path)
