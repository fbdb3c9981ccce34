-- The patterns of a query with trails, read from left to right: a path is cut at its trails into pieces, and the variables of the core
-- are numbered first (this project's profile).
use Rattle.std.specs.Prelude.{ℕ, suc, nat_lt, not, Bool, true, false, Option, Some, None, List, [], ◌∷◌, ◌++◌, map, filter, length, slice_get, unwrap_or, ◌≤◌}
use Rattle.std.specs.List.{AllByRecursion, range_with_len}
use Rattle.gq_law_reaches.specs.Core.{core_nodes, core_pattern}
use Rattle.gq_law_reaches.specs.Cores.{IsCored}
use Rattle.gq_law_reaches.specs.Reaches.{TrailPattern, Trailed, without_trails}
use Rattle.gq_plan.specs.Soundness.{has_number}
use Rattle.gq_plan.specs.declared.PathPart.{PathPart}
use Rattle.gq_plan.specs.declared.variable.Variable.{Variable}
use Rattle.gq_plan.specs.declared.variable.Variable.TheVariants.{Node as node, Rel as rel}
use Rattle.gq_scopes.specs.Renumbering.{placed_in}
use Rattle.gq_scopes.specs.Patterns.{MapEntry, NamedVariable, NodePattern, Pattern, RelPattern, no_pattern, variable_of, with_node, with_part, with_rel}
use Rattle.gq_ast.specs.declared.Arrow.{Arrow}
use Rattle.gq_ast.specs.declared.Arrow.TheVariants as arrow
use Rattle.gq_ast.specs.declared.Clause.{Clause}
use Rattle.gq_ast.specs.declared.Hop.{Hop}
use Rattle.gq_ast.specs.declared.Path.{Path}
use Rattle.gq_ast.specs.declared.Range.{Range}
use Rattle.gq_ast.specs.declared.RelPart.{RelPart}

-- ---- paths, cut at their trails

abbrev pub leads_right : Arrow → Bool
leads_right arrow.Right = true
leads_right arrow.Left = false
leads_right arrow.Either = false

-- a trail from a node variable at its left to one at its right
abbrev pub trail_of : ℕ → ℕ → ℕ → RelPart → Range → TrailPattern
trail_of clause left right part range = record {
  clause = clause;
  left = left;
  right = right;
  forward = leads_right part.arrow;
  kind = unwrap_or (slice_get part.kinds 0) [];
  low = range.low;
  high = range.high;
}

-- it has no variable, but it counts among the patterns without a name
abbrev pub with_trail : TrailPattern → Trailed → Trailed
with_trail t q = record q { pattern = record q.pattern { unnamed = suc q.pattern.unnamed }; trails = q.trails ++ t ∷ [] }

abbrev pub in_pattern : (Pattern → Pattern) → Trailed → Trailed
in_pattern change q = record q { pattern = change q.pattern }

-- a relationship or a trail of a path, and the node at its right; a trail ends the piece that stands before it
abbrev pub with_hop : Option Range → ℕ → PathPart → ℕ → ℕ → Hop → Trailed → Trailed
with_hop None clause piece left right h q = in_pattern (λ p. with_node h.node (with_rel clause left right h.rel p)) q
with_hop (Some range) clause piece left right h q =
    in_pattern (with_node h.node) (with_trail (trail_of clause left right h.rel range) (in_pattern (with_part piece) q))

-- the piece behind it: with one more relationship, or a new one
abbrev pub piece_behind : Option Range → PathPart → ℕ → ℕ → PathPart
piece_behind None piece number right = record piece { rels = piece.rels ++ number ∷ [] }
piece_behind (Some range) piece number right = record { first = right; rels = [] }

abbrev pub with_hops : ℕ → PathPart → ℕ → List Hop → Trailed → Trailed
with_hops clause piece left [] q = in_pattern (with_part piece) q
with_hops clause piece left (h ∷ hs) q =
    with_hops clause (piece_behind h.rel.trail piece (length q.pattern.rels) (variable_of q.pattern h.node)) (variable_of q.pattern h.node) hs
    (with_hop h.rel.trail clause piece left (variable_of q.pattern h.node) h q)

-- the variable of a whole path of one node
abbrev pub alone_in : List Hop → ℕ → List ℕ
alone_in [] v = v ∷ []
alone_in (h ∷ hs) v = []

abbrev pub with_path : ℕ → Path → Trailed → Trailed
with_path clause path q =
    let v : ℕ = variable_of q.pattern path.first in
    with_hops clause (record { first = v; rels = [] }) v path.hops
    (record (in_pattern (with_node path.first) q) { alone = q.alone ++ alone_in path.hops v })

abbrev pub with_paths : ℕ → List Path → Trailed → Trailed
with_paths clause [] q = q
with_paths clause (path ∷ paths) q = with_paths clause paths (with_path clause path q)

abbrev pub with_clauses : ℕ → List Clause → Trailed → Trailed
with_clauses number [] q = q
with_clauses number (c ∷ cs) q = with_clauses (suc number) cs (with_paths number c.paths q)

-- the patterns of MATCH clauses, their variables in the order of first appearance
unfoldable pub trailed_of : List Clause → Trailed
trailed_of clauses = with_clauses 0 clauses (without_trails no_pattern)

-- no trail is empty, or longer than 16
abbrev pub HaveLengths : List Clause → Type 0
HaveLengths clauses =
    AllByRecursion (λ (w : TrailPattern). (1 ≤ w.low) × (w.low ≤ w.high) × (w.high ≤ 16)) (trailed_of clauses).trails

-- ---- variables numbered anew

-- the variables of the core, and then the others, each in the order of first appearance
abbrev pub core_first : Trailed → List ℕ
core_first q =
    core_nodes q ++ filter (λ v. not (has_number (core_nodes q) v)) (range_with_len 0 (length q.pattern.names))

abbrev pub variable_in : List ℕ → Variable → Variable
variable_in order (node v) = node (placed_in order v)
variable_in order (rel x) = rel x

-- items of variables, in an order
abbrev pub listed_in : {X : Type 0} → X → List X → List ℕ → List X
listed_in other xs order = map (λ v. unwrap_or (slice_get xs v) other) order

abbrev pub pattern_in : List ℕ → Pattern → Pattern
pattern_in order p = record p {
  names = listed_in None p.names order;
  node_names = listed_in [] p.node_names order;
  named = map (λ (n : NamedVariable). record n { variable = variable_in order n.variable }) p.named;
  nodes = map (λ (n : NodePattern). record n { variable = placed_in order n.variable }) p.nodes;
  rels = map (λ (r : RelPattern). record r { left = placed_in order r.left; right = placed_in order r.right }) p.rels;
  paths = map (λ (x : PathPart). record x { first = placed_in order x.first }) p.paths;
  entries = map (λ (e : MapEntry). record e { variable = variable_in order e.variable }) p.entries;
}

abbrev pub numbered_in : List ℕ → Trailed → Trailed
numbered_in order q = record {
  pattern = pattern_in order q.pattern;
  trails = map (λ (t : TrailPattern). record t { left = placed_in order t.left; right = placed_in order t.right }) q.trails;
  alone = map (placed_in order) q.alone;
}

-- the patterns of MATCH clauses with the variables of the core first, and how many these are
unfoldable pub cored_of : List Clause → Trailed
cored_of clauses = numbered_in (core_first (trailed_of clauses)) (trailed_of clauses)

unfoldable pub core_size : List Clause → ℕ
core_size clauses = length (core_nodes (trailed_of clauses))

-- ---- the core

-- the pattern of the core: its paths are the pieces all of whose variables are in the core
abbrev pub core_of : ℕ → Pattern → Pattern
core_of k p = record (core_pattern k p) { paths = filter (λ (x : PathPart). nat_lt x.first k) p.paths }

-- ---- the law

-- where no trail is empty, the core's variables are the first, each other variable is an end of a trail, and so on
abbrev pub CutsAreCored : Type 0
CutsAreCored =
    (clauses : List Clause) → AllByRecursion (λ (t : TrailPattern). 1 ≤ t.low) (trailed_of clauses).trails
    → IsCored (core_size clauses) (cored_of clauses)
