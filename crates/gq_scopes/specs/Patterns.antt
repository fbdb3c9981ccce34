-- The patterns of a query, read from left to right: a name is one variable wherever it stands, and a node pattern
-- without a name is a variable of its own (openCypher 9).
use Rattle.std.specs.Prelude.{ℕ, suc, nat_eq, Bool, false, Option, Some, None, List, [], ◌∷◌, ◌++◌, length, map, codes, decimal, unwrap_or}
use Rattle.gq_plan.specs.declared.variable.Variable.TheVariants.{Node as node, Rel as rel}
use Rattle.gq_plan.specs.declared.variable.Variable.{Variable}
use Rattle.std.specs.List.{position, range_with_len}
use Rattle.std.specs.Cmp.Lexicographic.{pointwise}
use Rattle.gq_plan.specs.declared.PathPart.{PathPart}
use Rattle.gq_ast.specs.declared.Clause.{Clause}
use Rattle.gq_ast.specs.declared.Entry.{Entry}
use Rattle.gq_ast.specs.declared.Hop.{Hop}
use Rattle.gq_ast.specs.declared.NodePart.{NodePart}
use Rattle.gq_ast.specs.declared.Path.{Path}
use Rattle.gq_ast.specs.declared.RelPart.{RelPart}

abbrev pub Name : Type 0
Name = List ℕ

-- a node pattern and its variable
pub record NodePattern : Type 0 where
  pub variable : ℕ
  pub part : NodePart

-- a relationship pattern, the number of its MATCH clause, and the node variables at its left and at its right
pub record RelPattern : Type 0 where
  pub clause : ℕ
  pub left : ℕ
  pub right : ℕ
  pub part : RelPart

-- an entry of a pattern's map, its variable, and what the variable is called
pub record MapEntry : Type 0 where
  pub variable : Variable
  pub called : Name
  pub entry : Entry

-- a name that stands in a pattern, and its variable there
pub record NamedVariable : Type 0 where
  pub name : Name
  pub variable : Variable

abbrev pub is_same_name : NamedVariable → NamedVariable → Bool
is_same_name m n = pointwise nat_eq m.name n.name

-- the patterns: the name of each node variable, all names in text order, what the variables are called, how many
-- patterns have no name, and the patterns, paths and entries in text order; a relationship pattern's place in its list
-- is its variable
pub record Pattern : Type 0 where
  pub names : List (Option Name)
  pub named : List NamedVariable
  pub node_names : List Name
  pub rel_names : List Name
  pub unnamed : ℕ
  pub nodes : List NodePattern
  pub rels : List RelPattern
  pub paths : List PathPart
  pub entries : List MapEntry

abbrev pub no_pattern : Pattern
no_pattern = record { names = []; named = []; node_names = []; rel_names = []; unnamed = 0; nodes = []; rels = []; paths = []; entries = [] }

abbrev pub is_called : Name → Option Name → Bool
is_called name None = false
is_called name (Some n) = pointwise nat_eq n name

-- the first variable with a name
abbrev pub find_name : List (Option Name) → Name → Option ℕ
find_name names name = position (is_called name) names

-- the variable that a pattern has already
abbrev pub known_as : List (Option Name) → Option Name → Option ℕ
known_as names None = None
known_as names (Some name) = find_name names name

-- what a variable is called: its name, or `#1`, `#2` and so on by the patterns without a name (this project's profile)
abbrev pub called : ℕ → Option Name → Name
called unnamed None = codes "#" ++ decimal (suc unnamed)
called unnamed (Some name) = name

abbrev pub unnamed_after : ℕ → Option Name → ℕ
unnamed_after unnamed None = suc unnamed
unnamed_after unnamed (Some name) = unnamed

-- the variable of a node pattern that comes next
abbrev pub variable_of : Pattern → NodePart → ℕ
variable_of p part = unwrap_or (known_as p.names part.name) (length p.names)

abbrev pub entries_of : Variable → Name → List Entry → List MapEntry
entries_of variable name es = map (λ e. record { variable = variable; called = name; entry = e }) es

abbrev pub naming : Option Name → Variable → List NamedVariable
naming None variable = []
naming (Some name) variable = record { name = name; variable = variable } ∷ []

-- the name and the map entries of a variable
abbrev pub with_variable : Variable → Option Name → List Entry → Pattern → Pattern
with_variable variable name es p = record p {
  named = p.named ++ naming name variable;
  entries = p.entries ++ entries_of variable (called p.unnamed name) es;
}

-- a node pattern of a variable that stands already, and one of a new variable
abbrev pub node_again : ℕ → NodePart → Pattern → Pattern
node_again v part p = record (with_variable (node v) part.name part.map p) {
  nodes = p.nodes ++ record { variable = v; part = part } ∷ [];
}

abbrev pub node_new : NodePart → Pattern → Pattern
node_new part p = record (node_again (length p.names) part p) {
  names = p.names ++ part.name ∷ [];
  node_names = p.node_names ++ called p.unnamed part.name ∷ [];
  unnamed = unnamed_after p.unnamed part.name;
}

abbrev node_found : Option ℕ → NodePart → Pattern → Pattern
node_found None part p = node_new part p
node_found (Some v) part p = node_again v part p

abbrev pub with_node : NodePart → Pattern → Pattern
with_node part p = node_found (known_as p.names part.name) part p

-- a relationship pattern between two node variables
abbrev pub with_rel : ℕ → ℕ → ℕ → RelPart → Pattern → Pattern
with_rel clause left right part p = record (with_variable (rel (length p.rels)) part.name part.map p) {
  rel_names = p.rel_names ++ called p.unnamed part.name ∷ [];
  unnamed = unnamed_after p.unnamed part.name;
  rels = p.rels ++ record { clause = clause; left = left; right = right; part = part } ∷ [];
}

-- the relationships and nodes of a path that follow a node variable
abbrev pub with_hops : ℕ → ℕ → List Hop → Pattern → Pattern
with_hops clause left [] p = p
with_hops clause left (h ∷ hs) p =
    with_hops clause (variable_of p h.node) hs (with_node h.node (with_rel clause left (variable_of p h.node) h.rel p))

abbrev pub with_part : PathPart → Pattern → Pattern
with_part part p = record p { paths = p.paths ++ part ∷ [] }

abbrev pub with_path : ℕ → Path → Pattern → Pattern
with_path clause path p =
    with_part (record { first = variable_of p path.first; rels = range_with_len (length p.rels) (length path.hops) })
    (with_hops clause (variable_of p path.first) path.hops (with_node path.first p))

abbrev pub with_paths : ℕ → List Path → Pattern → Pattern
with_paths clause [] p = p
with_paths clause (path ∷ paths) p = with_paths clause paths (with_path clause path p)

abbrev pub with_clauses : ℕ → List Clause → Pattern → Pattern
with_clauses number [] p = p
with_clauses number (c ∷ cs) p = with_clauses (suc number) cs (with_paths number c.paths p)

-- the patterns of MATCH clauses
unfoldable pub pattern_of : List Clause → Pattern
pattern_of clauses = with_clauses 0 clauses no_pattern
