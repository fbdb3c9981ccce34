-- The definitions of matches and alternatives on a small graph, by computation: three persons, two cities, five
-- relationships KNOWS and two LIVES_IN. What each query lists is worked out by hand.
use Prim.Native.String.{String}
use Rattle.std.proofs.Common.{◌≡◌, refl, ℕ, Bool, true, false, Option, Some, None, List, [], ◌∷◌, ◌++◌, map, length, codes, decimal, pos}
use Rattle.gq_base.specs.Plain.{Graph}
use Rattle.gq_base.specs.declared.Cell.{Cell}
use Rattle.gq_base.specs.declared.Cell.TheVariants as cell
use Rattle.gq_base.specs.declared.Kind.TheVariants as kind
use Rattle.gq_base.specs.declared.Literal.TheVariants as literal
use Rattle.gq_base.specs.declared.Mult.TheVariants as mult
use Rattle.gq_base.specs.declared.PlainRel.{PlainRel}
use Rattle.gq_plan.specs.Assignments.{Assignment, assignments, tuples, nodes_of, all_nodes, rels_of, all_rels, source, target}
use Rattle.gq_ast.specs.declared.Arrow.{Arrow}
use Rattle.gq_ast.specs.declared.Arrow.TheVariants as arrow
use Rattle.gq_ast.specs.declared.Clause.{Clause}
use Rattle.gq_ast.specs.declared.Hop.{Hop}
use Rattle.gq_ast.specs.declared.NodePart.{NodePart}
use Rattle.gq_ast.specs.declared.Path.{Path}
use Rattle.gq_ast.specs.declared.RelPart.{RelPart}
use Rattle.gq_alternatives.specs.Alternatives.{Choice, choices, pattern_alternatives}
use Rattle.gq_alternatives.specs.Matches.{pattern_matches}
use Rattle.gq_scopes.specs.Patterns.{pattern_of}

abbrev number : ℕ → Option Cell
number n = Some (cell.Int (pos n))

abbrev text : String → Option Cell
text s = Some (cell.Str (codes s))

abbrev joined : ℕ → ℕ → List (Option Cell) → PlainRel
joined from to cells = record { source = from; target = to; cells = cells }

abbrev g : Graph
g = record {
  catalog = record {
    nodes =
        record { word = codes "Person"; labels = codes "Person" ∷ []; file = []; fields = record { name = codes "id"; kind = kind.Int } ∷ record { name = codes "name"; kind = kind.Str } ∷ record { name = codes "age"; kind = kind.Int } ∷ [] }
        ∷ record { word = codes "City"; labels = codes "City" ∷ []; file = []; fields = record { name = codes "code"; kind = kind.Str } ∷ record { name = codes "pop"; kind = kind.Int } ∷ [] } ∷ [];
    rels =
        record { name = codes "KNOWS"; from = 0; to = 0; mult = mult.ManyMany; file = []; fields = record { name = codes "since"; kind = kind.Int } ∷ [] }
        ∷ record { name = codes "LIVES_IN"; from = 0; to = 1; mult = mult.ManyOne; file = []; fields = [] } ∷ [];
  };
  nodes =
      ((number 1 ∷ text "Ann" ∷ number 30 ∷ []) ∷ (number 2 ∷ text "Bob" ∷ None ∷ []) ∷ (number 3 ∷ text "Cy" ∷ number 25 ∷ []) ∷ [])
      ∷ ((text "X" ∷ number 100 ∷ []) ∷ (text "Y" ∷ None ∷ []) ∷ []) ∷ [];
  rels =
      (joined 0 1 (number 2010 ∷ []) ∷ joined 1 0 (number 2011 ∷ []) ∷ joined 0 2 (None ∷ []) ∷ joined 2 2 (number 2015 ∷ []) ∷ joined 0 1 (number 2012 ∷ []) ∷ [])
      ∷ (joined 0 0 [] ∷ joined 2 0 [] ∷ []) ∷ [];
}

-- the patterns `(a)` and `(a:L)`
abbrev node : String → NodePart
node name = record { name = Some (codes name); labels = []; map = []; at = 0 }

abbrev labelled : String → String → NodePart
labelled name label = record { name = Some (codes name); labels = codes label ∷ []; map = []; at = 0 }

-- `[:T]`, and `[]` of any type
abbrev typed : String → Arrow → RelPart
typed kind way = record { name = None; kinds = codes kind ∷ []; map = []; arrow = way; trail = None; at = 0 }

abbrev untyped : Arrow → RelPart
untyped way = record { name = None; kinds = []; map = []; arrow = way; trail = None; at = 0 }

abbrev hop : RelPart → NodePart → Hop
hop rel node = record { rel = rel; node = node }

abbrev path : NodePart → List Hop → Path
path first hops = record { first = first; hops = hops }

abbrev clause : List Path → Clause
clause paths = record { paths = paths; filter = None }

-- the rows of the nodes, and the tables and numbers of the relationships, that a match has
abbrev rows : Assignment → List ℕ
rows t = map (λ n. n.row) t.nodes

abbrev numbers : Assignment → List ℕ
numbers t = map (λ r. r.row) t.rels

-- (a)-[:KNOWS]->(b)
forward : map rows (pattern_matches g (pattern_of (clause (path (node "a") (hop (typed "KNOWS" arrow.Right) (node "b") ∷ []) ∷ []) ∷ []))) ≡ (0 ∷ 1 ∷ []) ∷ (0 ∷ 1 ∷ []) ∷ (0 ∷ 2 ∷ []) ∷ (1 ∷ 0 ∷ []) ∷ (2 ∷ 2 ∷ []) ∷ []
unfolding pattern_matches pattern_of assignments tuples nodes_of all_nodes rels_of all_rels source target
forward = refl

-- (a)-[:KNOWS]-(b): the self-loop stands once
either : map rows (pattern_matches g (pattern_of (clause (path (node "a") (hop (typed "KNOWS" arrow.Either) (node "b") ∷ []) ∷ []) ∷ [])))
    ≡ (0 ∷ 1 ∷ []) ∷ (0 ∷ 1 ∷ []) ∷ (0 ∷ 1 ∷ []) ∷ (0 ∷ 2 ∷ []) ∷ (1 ∷ 0 ∷ []) ∷ (1 ∷ 0 ∷ []) ∷ (1 ∷ 0 ∷ []) ∷ (2 ∷ 0 ∷ []) ∷ (2 ∷ 2 ∷ []) ∷ []
unfolding pattern_matches pattern_of assignments tuples nodes_of all_nodes rels_of all_rels source target
either = refl

-- (a)-[:KNOWS]->(b)-[:KNOWS]->(c): two different relationships
two_steps : map rows (pattern_matches g (pattern_of (clause (path (node "a") (hop (typed "KNOWS" arrow.Right) (node "b") ∷ hop (typed "KNOWS" arrow.Right) (node "c") ∷ []) ∷ []) ∷ [])))
    ≡ (0 ∷ 1 ∷ 0 ∷ []) ∷ (0 ∷ 1 ∷ 0 ∷ []) ∷ (0 ∷ 2 ∷ 2 ∷ []) ∷ (1 ∷ 0 ∷ 1 ∷ []) ∷ (1 ∷ 0 ∷ 1 ∷ []) ∷ (1 ∷ 0 ∷ 2 ∷ []) ∷ []
unfolding pattern_matches pattern_of assignments tuples nodes_of all_nodes rels_of all_rels source target
two_steps = refl

-- MATCH (a)-[:KNOWS]->(b) MATCH (b)-[:KNOWS]->(c): the self-loop may stand in both
two_clauses : map rows (pattern_matches g (pattern_of (clause (path (node "a") (hop (typed "KNOWS" arrow.Right) (node "b") ∷ []) ∷ []) ∷ clause (path (node "b") (hop (typed "KNOWS" arrow.Right) (node "c") ∷ []) ∷ []) ∷ [])))
    ≡ (0 ∷ 1 ∷ 0 ∷ []) ∷ (0 ∷ 1 ∷ 0 ∷ []) ∷ (0 ∷ 2 ∷ 2 ∷ []) ∷ (1 ∷ 0 ∷ 1 ∷ []) ∷ (1 ∷ 0 ∷ 1 ∷ []) ∷ (1 ∷ 0 ∷ 2 ∷ []) ∷ (2 ∷ 2 ∷ 2 ∷ []) ∷ []
unfolding pattern_matches pattern_of assignments tuples nodes_of all_nodes rels_of all_rels source target
two_clauses = refl

-- (b)<-[:KNOWS]-(a)-[:KNOWS]->(c), the nodes in the order b, a, c
from_the_middle : map rows (pattern_matches g (pattern_of (clause (path (node "b") (hop (typed "KNOWS" arrow.Left) (node "a") ∷ hop (typed "KNOWS" arrow.Right) (node "c") ∷ []) ∷ []) ∷ [])))
    ≡ (1 ∷ 0 ∷ 1 ∷ []) ∷ (1 ∷ 0 ∷ 1 ∷ []) ∷ (1 ∷ 0 ∷ 2 ∷ []) ∷ (1 ∷ 0 ∷ 2 ∷ []) ∷ (2 ∷ 0 ∷ 1 ∷ []) ∷ (2 ∷ 0 ∷ 1 ∷ []) ∷ []
unfolding pattern_matches pattern_of assignments tuples nodes_of all_nodes rels_of all_rels source target
from_the_middle = refl

-- (p:Person)-[:LIVES_IN]->(c)
with_label : map rows (pattern_matches g (pattern_of (clause (path (labelled "p" "Person") (hop (typed "LIVES_IN" arrow.Right) (node "c") ∷ []) ∷ []) ∷ []))) ≡ (0 ∷ 0 ∷ []) ∷ (2 ∷ 0 ∷ []) ∷ []
unfolding pattern_matches pattern_of assignments tuples nodes_of all_nodes rels_of all_rels source target
with_label = refl

-- (n)
all_of_them : map rows (pattern_matches g (pattern_of (clause (path (node "n") [] ∷ []) ∷ []))) ≡ (0 ∷ []) ∷ (1 ∷ []) ∷ (2 ∷ []) ∷ (0 ∷ []) ∷ (1 ∷ []) ∷ []
unfolding pattern_matches pattern_of assignments tuples nodes_of all_nodes rels_of all_rels source target
all_of_them = refl

-- (x:Nobody)
nobody : pattern_matches g (pattern_of (clause (path (labelled "x" "Nobody") [] ∷ []) ∷ [])) ≡ []
unfolding pattern_matches pattern_of assignments tuples nodes_of all_nodes rels_of all_rels source target
nobody = refl

-- (a)-[:KNOWS]->(b), (c)-[:KNOWS]->(b), the nodes in the order a, b, c
shared_target : map rows (pattern_matches g (pattern_of (clause (path (node "a") (hop (typed "KNOWS" arrow.Right) (node "b") ∷ []) ∷ path (node "c") (hop (typed "KNOWS" arrow.Right) (node "b") ∷ []) ∷ []) ∷ [])))
    ≡ (0 ∷ 1 ∷ 0 ∷ []) ∷ (0 ∷ 1 ∷ 0 ∷ []) ∷ (0 ∷ 2 ∷ 2 ∷ []) ∷ (2 ∷ 2 ∷ 0 ∷ []) ∷ []
unfolding pattern_matches pattern_of assignments tuples nodes_of all_nodes rels_of all_rels source target
shared_target = refl

-- (a)-[r]->(b:City)
to_cities : map numbers (pattern_matches g (pattern_of (clause (path (node "a") (hop (untyped arrow.Right) (labelled "b" "City") ∷ []) ∷ []) ∷ []))) ≡ (0 ∷ []) ∷ (1 ∷ []) ∷ []
unfolding pattern_matches pattern_of assignments tuples nodes_of all_nodes rels_of all_rels source target
to_cities = refl

-- (p {age: 30}), and (p {age: null}), which no null equals
aged : map rows (pattern_matches g (pattern_of (clause (path (record { name = None; labels = []; map = record { key = codes "age"; value = literal.Int (pos 30); value_span = record { start = 0; end = 0 } } ∷ []; at = 0 }) [] ∷ []) ∷ []))) ≡ (0 ∷ []) ∷ []
unfolding pattern_matches pattern_of assignments tuples nodes_of all_nodes rels_of all_rels source target
aged = refl

ageless : pattern_matches g (pattern_of (clause (path (record { name = None; labels = []; map = record { key = codes "age"; value = literal.Null; value_span = record { start = 0; end = 0 } } ∷ []; at = 0 }) [] ∷ []) ∷ [])) ≡ []
unfolding pattern_matches pattern_of assignments tuples nodes_of all_nodes rels_of all_rels source target
ageless = refl

-- (a)-[:KNOWS]-(b) has a forward and a backward alternative; (a)-[]-(b) has four, by type and then by way
abbrev readings : Choice → List (ℕ × Bool)
readings c = map (λ r. (r.table, r.reversed)) c.readings

both_ways : map readings (pattern_alternatives g.catalog (pattern_of (clause (path (node "a") (hop (typed "KNOWS" arrow.Either) (node "b") ∷ []) ∷ []) ∷ []))) ≡ ((0, false) ∷ []) ∷ ((0, true) ∷ []) ∷ []
unfolding pattern_alternatives choices pattern_of tuples
both_ways = refl

by_type_and_way : pattern_alternatives g.catalog (pattern_of (clause (path (node "a") (hop (untyped arrow.Either) (node "b") ∷ []) ∷ []) ∷ []))
    ≡ record { readings = record { table = 0; reversed = false } ∷ []; tables = 0 ∷ 0 ∷ [] } ∷ record { readings = record { table = 0; reversed = true } ∷ []; tables = 0 ∷ 0 ∷ [] }
    ∷ record { readings = record { table = 1; reversed = false } ∷ []; tables = 0 ∷ 1 ∷ [] } ∷ record { readings = record { table = 1; reversed = true } ∷ []; tables = 1 ∷ 0 ∷ [] } ∷ []
unfolding pattern_alternatives choices pattern_of tuples
by_type_and_way = refl

-- three patterns without label have eight alternatives, and ten 1,024
three_nodes : length (pattern_alternatives g.catalog (pattern_of (clause (path (node "a") [] ∷ path (node "b") [] ∷ path (node "c") [] ∷ []) ∷ []))) ≡ 8
unfolding pattern_alternatives choices pattern_of tuples
three_nodes = refl

-- what the variables of (a)-[]->()-[r]->(a) are called
called : (pattern_of (clause (path (node "a") (hop (untyped arrow.Right) (record { name = None; labels = []; map = []; at = 0 }) ∷ hop (record { name = Some (codes "r"); kinds = []; map = []; arrow = arrow.Right; trail = None; at = 0 }) (node "a") ∷ []) ∷ []) ∷ [])).node_names
    ≡ codes "a" ∷ (codes "#" ++ decimal 2) ∷ []
unfolding pattern_of
called = refl

called_rels : (pattern_of (clause (path (node "a") (hop (untyped arrow.Right) (record { name = None; labels = []; map = []; at = 0 }) ∷ hop (record { name = Some (codes "r"); kinds = []; map = []; arrow = arrow.Right; trail = None; at = 0 }) (node "a") ∷ []) ∷ []) ∷ [])).rel_names
    ≡ (codes "#" ++ decimal 1) ∷ codes "r" ∷ []
unfolding pattern_of
called_rels = refl
