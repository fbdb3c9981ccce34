-- Cores of queries with trails by computation: which variables they have, how trails are walked, and which pieces the alternatives have.
-- What each query gives is worked out by hand.
use Prim.Native.String.{String}
use Rattle.std.proofs.Common.{◌≡◌, refl, ℕ, Bool, true, false, Some, None, List, [], ◌∷◌, map, codes, pos, length}
use Rattle.gq_base.specs.declared.Literal.TheVariants as literal
use Rattle.gq_base.specs.declared.direction.Direction.{Direction}
use Rattle.gq_base.specs.declared.direction.Direction.TheVariants.{Forward, Backward}
use Rattle.gq_expr.specs.declared.Expr.TheVariants as expr
use Rattle.gq_plan.specs.declared.NamedExpr.{NamedExpr}
use Rattle.gq_law_reaches.specs.Core.{core_nodes, trail_parts}
use Rattle.gq_plan.specs.declared.TrailPart.{TrailPart}
use Rattle.gq_plan.specs.declared.PathPart.{PathPart}
use Rattle.gq_scopes.specs.Patterns.{MapEntry, pattern_of}
use Rattle.gq_ast.specs.declared.Arrow.{Arrow}
use Rattle.gq_ast.specs.declared.Arrow.TheVariants as arrow
use Rattle.gq_ast.specs.declared.Clause.{Clause}
use Rattle.gq_ast.specs.declared.Hop.{Hop}
use Rattle.gq_ast.specs.declared.NodePart.{NodePart}
use Rattle.gq_ast.specs.declared.Path.{Path}
use Rattle.gq_law_cuts.specs.Cuts.{core_first, core_of, core_size, cored_of, trailed_of}

-- ---- patterns

abbrev node : String → NodePart
node name = record { name = Some (codes name); labels = []; map = []; at = 0 }

abbrev joined : String → Arrow → String → Hop
joined kind way name = record { rel = record { name = None; kinds = codes kind ∷ []; map = []; arrow = way; trail = None; at = 0 }; node = node name }

abbrev trailed : String → Arrow → ℕ → ℕ → String → Hop
trailed kind way low high name =
    record { rel = record { name = None; kinds = codes kind ∷ []; map = []; arrow = way; trail = Some (record { low = low; high = high }); at = 0 }; node = node name }

abbrev path : NodePart → List Hop → Path
path first hops = record { first = first; hops = hops }

abbrev clause : List Path → Clause
clause paths = record { paths = paths; filter = None }

-- what maps test plays no part here
abbrev any_test : MapEntry → NamedExpr
any_test e = record { name = e.called; expr = expr.Literal e.entry.value }

-- each trail, without its type and its tests
record Walked : Type 0 where
  from : ℕ
  to : ℕ
  along : Bool
  both : Bool

abbrev is_forward : Direction → Bool
is_forward Forward = true
is_forward Backward = false

abbrev walked : List Clause → List Walked
walked clauses = map (λ (p : TrailPart). record { from = p.from; to = p.to; along = is_forward p.way; both = p.both }) (trail_parts any_test (cored_of clauses))

abbrev pieces : List Clause → List PathPart
pieces clauses = (core_of (core_size clauses) (cored_of clauses).pattern).paths

-- ---- (a:Person {id: 1})-[:KNOWS*1..2]->(b): neither end is of a piece, so the left end becomes the core

abbrev ann : NodePart
ann = record { name = Some (codes "a"); labels = codes "Person" ∷ []; map = record { key = codes "id"; value = literal.Int (pos 1); value_span = record { start = 0; end = 0 } } ∷ []; at = 0 }

abbrev friends : List Clause
friends = clause (path ann (trailed "KNOWS" arrow.Right 1 2 "b" ∷ []) ∷ []) ∷ []

friends_core : core_nodes (trailed_of friends) ≡ 0 ∷ []
unfolding trailed_of
friends_core = refl

friends_walked : walked friends ≡ record { from = 0; to = 1; along = true; both = false } ∷ []
unfolding trailed_of cored_of
friends_walked = refl

friends_pieces : pieces friends ≡ record { first = 0; rels = [] } ∷ []
unfolding trailed_of cored_of core_size
friends_pieces = refl

-- the entries of the core's maps are those of a
friends_entries : length (core_of 1 (cored_of friends).pattern).entries ≡ 1
unfolding trailed_of cored_of
friends_entries = refl

-- ---- (a)-[:LIVES_IN]->(c), (a)-[:KNOWS*2]->(b)-[:LIVES_IN]->(c): all variables are of pieces, and both ends of the trail are bound

abbrev neighbours : List Clause
neighbours =
    clause (path (node "a") (joined "LIVES_IN" arrow.Right "c" ∷ []) ∷ path (node "a") (trailed "KNOWS" arrow.Right 2 2 "b" ∷ joined "LIVES_IN" arrow.Right "c" ∷ []) ∷ []) ∷ []

neighbours_core : core_nodes (trailed_of neighbours) ≡ 0 ∷ 1 ∷ 2 ∷ []
unfolding trailed_of
neighbours_core = refl

neighbours_walked : walked neighbours ≡ record { from = 0; to = 2; along = true; both = true } ∷ []
unfolding trailed_of cored_of
neighbours_walked = refl

-- a alone is a piece too
neighbours_pieces : pieces neighbours ≡ record { first = 0; rels = 0 ∷ [] } ∷ record { first = 0; rels = [] } ∷ record { first = 2; rels = 1 ∷ [] } ∷ []
unfolding trailed_of cored_of core_size
neighbours_pieces = refl

-- ---- (a)-[:KNOWS*2]->(b)-[:LIVES_IN]->(c): a trail at the beginning is walked from its right end, against its arrow, and a comes last

abbrev first_trail : List Clause
first_trail = clause (path (node "a") (trailed "KNOWS" arrow.Right 2 2 "b" ∷ joined "LIVES_IN" arrow.Right "c" ∷ []) ∷ []) ∷ []

first_order : core_first (trailed_of first_trail) ≡ 1 ∷ 2 ∷ 0 ∷ []
unfolding trailed_of
first_order = refl

first_names : (cored_of first_trail).pattern.node_names ≡ codes "b" ∷ codes "c" ∷ codes "a" ∷ []
unfolding trailed_of cored_of
first_names = refl

first_walked : walked first_trail ≡ record { from = 0; to = 2; along = false; both = false } ∷ []
unfolding trailed_of cored_of
first_walked = refl

-- numbered so, the core's variables are the first
first_cored : core_nodes (cored_of first_trail) ≡ 0 ∷ 1 ∷ []
unfolding trailed_of cored_of
first_cored = refl

first_pieces : pieces first_trail ≡ record { first = 0; rels = 0 ∷ [] } ∷ []
unfolding trailed_of cored_of core_size
first_pieces = refl

-- ---- (a)-[:KNOWS]->(b)<-[:KNOWS*1..2]-(c)-[:LIVES_IN]->(d): a trail in the middle joins two pieces; its arrow starts at its right

abbrev middle_trail : List Clause
middle_trail = clause (path (node "a") (joined "KNOWS" arrow.Right "b" ∷ trailed "KNOWS" arrow.Left 1 2 "c" ∷ joined "LIVES_IN" arrow.Right "d" ∷ []) ∷ []) ∷ []

middle_core : core_size middle_trail ≡ 4
unfolding trailed_of core_size
middle_core = refl

middle_walked : walked middle_trail ≡ record { from = 1; to = 2; along = false; both = true } ∷ []
unfolding trailed_of cored_of
middle_walked = refl

middle_pieces : pieces middle_trail ≡ record { first = 0; rels = 0 ∷ [] } ∷ record { first = 2; rels = 1 ∷ [] } ∷ []
unfolding trailed_of cored_of core_size
middle_pieces = refl

-- ---- (a)-[:KNOWS*2]->(b)-[:KNOWS*1..2]->(c): of two trails in a chain the first one's left end is the core, and the second goes on from
-- where the first ends

abbrev chain : List Clause
chain = clause (path (node "a") (trailed "KNOWS" arrow.Right 2 2 "b" ∷ trailed "KNOWS" arrow.Right 1 2 "c" ∷ []) ∷ []) ∷ []

chain_core : core_nodes (trailed_of chain) ≡ 0 ∷ []
unfolding trailed_of
chain_core = refl

chain_walked : walked chain ≡ record { from = 0; to = 1; along = true; both = false } ∷ record { from = 1; to = 2; along = true; both = false } ∷ []
unfolding trailed_of cored_of
chain_walked = refl

-- trails count among the patterns without a name
chain_unnamed : (trailed_of chain).pattern.unnamed ≡ 2
unfolding trailed_of
chain_unnamed = refl

-- ---- MATCH (x)-[:KNOWS*2]->(y)-[:KNOWS]->(z) MATCH (z)-[:LIVES_IN]->(c): x stands first in the text, and comes last

abbrev later_clause : List Clause
later_clause =
    clause (path (node "x") (trailed "KNOWS" arrow.Right 2 2 "y" ∷ joined "KNOWS" arrow.Right "z" ∷ []) ∷ [])
    ∷ clause (path (node "z") (joined "LIVES_IN" arrow.Right "c" ∷ []) ∷ []) ∷ []

later_order : core_first (trailed_of later_clause) ≡ 1 ∷ 2 ∷ 3 ∷ 0 ∷ []
unfolding trailed_of
later_order = refl

-- ---- (a)-[:KNOWS]->(b), (c): without trails the patterns and their numbers are as they are read, and the core is all

abbrev plain : List Clause
plain = clause (path (node "a") (joined "KNOWS" arrow.Right "b" ∷ []) ∷ path (node "c") [] ∷ []) ∷ []

plain_pattern : (cored_of plain).pattern ≡ pattern_of plain
unfolding trailed_of cored_of pattern_of
plain_pattern = refl

plain_core : core_of (core_size plain) (cored_of plain).pattern ≡ pattern_of plain
unfolding trailed_of cored_of core_size pattern_of
plain_core = refl
