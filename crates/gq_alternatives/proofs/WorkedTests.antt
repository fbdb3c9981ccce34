-- The value of `exists(path)` by computation: three persons, two cities, five relationships KNOWS and two LIVES_IN. What each test says
-- is worked out by hand.
use Prim.Native.String.{String}
use Rattle.std.proofs.Common.{◌≡◌, refl, ℕ, true, false, Option, Some, None, List, [], ◌∷◌, map, slice_get, codes, pos}
use Rattle.gq_base.specs.Plain.{Graph}
use Rattle.gq_base.specs.declared.Cell.{Cell}
use Rattle.gq_base.specs.declared.Cell.TheVariants as cell
use Rattle.gq_base.specs.declared.Kind.TheVariants as kind
use Rattle.gq_base.specs.declared.Literal.TheVariants as literal
use Rattle.gq_base.specs.declared.Mult.TheVariants as mult
use Rattle.gq_base.specs.declared.PlainRel.{PlainRel}
use Rattle.gq_expr.specs.Reading as reading
use Rattle.gq_plan.specs.Assignments.{assignments, tuples, nodes_of, all_nodes, rels_of, all_rels, source, target}
use Rattle.gq_ast.specs.declared.Arrow.TheVariants as arrow
use Rattle.gq_ast.specs.declared.Hop.{Hop}
use Rattle.gq_ast.specs.declared.NodePart.{NodePart}
use Rattle.gq_ast.specs.declared.Path.{Path}
use Rattle.gq_alternatives.specs.Matches.{pattern_matches}
use Rattle.gq_alternatives.specs.Tested.{exists_value}
use Rattle.gq_scopes.specs.PathPatterns.{path_pattern, shared_names}

abbrev number : ℕ → Option Cell
number n = Some (cell.Int (pos n))

abbrev text : String → Option Cell
text s = Some (cell.Str (codes s))

abbrev joined : ℕ → ℕ → PlainRel
joined from to = record { source = from; target = to; cells = [] }

-- Ann knows Bob twice and Cy, Bob knows Ann, Cy knows himself; Ann and Cy live in X
abbrev g : Graph
g = record {
  catalog = record {
    nodes =
        record { word = codes "Person"; labels = codes "Person" ∷ []; file = []; fields = record { name = codes "id"; kind = kind.Int } ∷ record { name = codes "name"; kind = kind.Str } ∷ [] }
        ∷ record { word = codes "City"; labels = codes "City" ∷ []; file = []; fields = record { name = codes "code"; kind = kind.Str } ∷ [] } ∷ [];
    rels =
        record { name = codes "KNOWS"; from = 0; to = 0; mult = mult.ManyMany; file = []; fields = [] }
        ∷ record { name = codes "LIVES_IN"; from = 0; to = 1; mult = mult.ManyOne; file = []; fields = [] } ∷ [];
  };
  nodes = ((number 1 ∷ text "Ann" ∷ []) ∷ (number 2 ∷ text "Bob" ∷ []) ∷ (number 3 ∷ text "Cy" ∷ []) ∷ []) ∷ ((text "X" ∷ []) ∷ (text "Y" ∷ []) ∷ []) ∷ [];
  rels = (joined 0 1 ∷ joined 1 0 ∷ joined 0 2 ∷ joined 2 2 ∷ joined 0 1 ∷ []) ∷ (joined 0 0 ∷ joined 2 0 ∷ []) ∷ [];
}

abbrev node : String → NodePart
node name = record { name = Some (codes name); labels = []; map = []; at = 0 }

abbrev unnamed : NodePart
unnamed = record { name = None; labels = []; map = []; at = 0 }

abbrev hop : String → NodePart → Hop
hop kind node = record { rel = record { name = None; kinds = codes kind ∷ []; map = []; arrow = arrow.Right; trail = None; at = 0 }; node = node }

abbrev path : NodePart → List Hop → Path
path first hops = record { first = first; hops = hops }

-- rows of these persons
abbrev at : List ℕ → reading.Assignment
at ns = record { nodes = slice_get (map (λ n. record { table = 0; row = n }) ns); rels = λ x. None }

-- exists((p)-[:LIVES_IN]->()) of Ann, Bob and Cy
abbrev lives : Path
lives = path (node "p") (hop "LIVES_IN" unnamed ∷ [])

lives_so : map (λ n. exists_value g lives (0 ∷ []) (at (n ∷ []))) (0 ∷ 1 ∷ 2 ∷ []) ≡ true ∷ false ∷ true ∷ []
unfolding path_pattern pattern_matches assignments tuples nodes_of all_nodes rels_of all_rels source target
lives_so = refl

-- exists((p)-[:KNOWS]->()-[:KNOWS]->({id: 1})): Bob knows nobody who knows Ann, Cy only himself, and no relationship stands twice
abbrev first_one : NodePart
first_one = record { name = None; labels = []; map = record { key = codes "id"; value = literal.Int (pos 1); value_span = record { start = 0; end = 0 } } ∷ []; at = 0 }

abbrev returns : Path
returns = path (node "p") (hop "KNOWS" unnamed ∷ hop "KNOWS" first_one ∷ [])

returns_so : map (λ n. exists_value g returns (0 ∷ []) (at (n ∷ []))) (0 ∷ 1 ∷ 2 ∷ []) ≡ true ∷ false ∷ false ∷ []
unfolding path_pattern pattern_matches assignments tuples nodes_of all_nodes rels_of all_rels source target
returns_so = refl

-- exists((b)-[:KNOWS]->(a)) of rows of a and b: the shared variables stand in the order of the path
abbrev back : Path
back = path (node "b") (hop "KNOWS" (node "a") ∷ [])

back_names : shared_names back ≡ codes "b" ∷ codes "a" ∷ []
back_names = refl

back_so : map (λ ns. exists_value g back (1 ∷ 0 ∷ []) (at ns)) ((0 ∷ 1 ∷ []) ∷ (1 ∷ 0 ∷ []) ∷ (0 ∷ 2 ∷ []) ∷ (2 ∷ 2 ∷ []) ∷ []) ≡ true ∷ true ∷ false ∷ true ∷ []
unfolding path_pattern pattern_matches assignments tuples nodes_of all_nodes rels_of all_rels source target
back_so = refl

-- exists(()-[:KNOWS]->(p)): behind a node without a name, the shared variable stands first all the same
abbrev known : Path
known = path unnamed (hop "KNOWS" (node "p") ∷ [])

known_so : map (λ n. exists_value g known (0 ∷ []) (at (n ∷ []))) (0 ∷ 1 ∷ 2 ∷ []) ≡ true ∷ true ∷ true ∷ []
unfolding path_pattern pattern_matches assignments tuples nodes_of all_nodes rels_of all_rels source target
known_so = refl
