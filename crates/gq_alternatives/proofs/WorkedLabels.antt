-- The definitions of matches and alternatives where nodes have several labels and a type has several tables, by
-- computation: persons, a student who is a person too, and what they know. What each query lists is worked out by hand.
use Prim.Native.String.{String}
use Rattle.std.proofs.Common.{◌≡◌, refl, ℕ, Bool, true, false, Option, Some, None, List, [], ◌∷◌, map, codes, pos}
use Rattle.gq_base.specs.Plain.{Graph}
use Rattle.gq_base.specs.declared.Cell.{Cell}
use Rattle.gq_base.specs.declared.Cell.TheVariants as cell
use Rattle.gq_base.specs.declared.Kind.TheVariants as kind
use Rattle.gq_base.specs.declared.Mult.TheVariants as mult
use Rattle.gq_base.specs.declared.PlainRel.{PlainRel}
use Rattle.gq_plan.specs.Assignments.{Assignment, assignments, tuples, nodes_of, all_nodes, rels_of, all_rels, source, target}
use Rattle.gq_ast.specs.declared.Arrow.{Arrow}
use Rattle.gq_ast.specs.declared.Arrow.TheVariants as arrow
use Rattle.gq_ast.specs.declared.Clause.{Clause}
use Rattle.gq_ast.specs.declared.NodePart.{NodePart}
use Rattle.gq_ast.specs.declared.Path.{Path}
use Rattle.gq_alternatives.specs.Alternatives.{Choice, choices, pattern_alternatives}
use Rattle.gq_alternatives.specs.Matches.{pattern_matches}
use Rattle.gq_scopes.specs.Patterns.{Pattern, pattern_of}

abbrev key : ℕ → List (Option Cell)
key n = Some (cell.Int (pos n)) ∷ []

abbrev joined : ℕ → ℕ → PlainRel
joined from to = record { source = from; target = to; cells = [] }

-- tables `Person` and `Person:Student`, and two of KNOWS, to persons from each of them
abbrev g : Graph
g = record {
  catalog = record {
    nodes =
        record { word = codes "Person"; labels = codes "Person" ∷ []; file = []; fields = record { name = codes "id"; kind = kind.Int } ∷ [] }
        ∷ record { word = codes "Person:Student"; labels = codes "Person" ∷ codes "Student" ∷ []; file = []; fields = record { name = codes "id"; kind = kind.Int } ∷ [] } ∷ [];
    rels =
        record { name = codes "KNOWS"; from = 0; to = 0; mult = mult.ManyMany; file = []; fields = [] }
        ∷ record { name = codes "KNOWS"; from = 1; to = 0; mult = mult.ManyOne; file = []; fields = [] } ∷ [];
  };
  nodes = (key 1 ∷ key 2 ∷ []) ∷ (key 7 ∷ []) ∷ [];
  rels = (joined 0 1 ∷ joined 1 0 ∷ []) ∷ (joined 0 0 ∷ []) ∷ [];
}

-- a node pattern of these labels
abbrev node : String → List (List ℕ) → NodePart
node name labels = record { name = Some (codes name); labels = labels; map = []; at = 0 }

abbrev clause : List Path → Clause
clause paths = record { paths = paths; filter = None }

-- one node, and `(a)-[:KNOWS]-(b)` in a way
abbrev alone : List (List ℕ) → Pattern
alone labels = pattern_of (clause (record { first = node "n" labels; hops = [] } ∷ []) ∷ [])

abbrev knows : Arrow → List (List ℕ) → Pattern
knows way labels =
    pattern_of
    (clause
    (record {
      first = node "a" [];
      hops = record { rel = record { name = None; kinds = codes "KNOWS" ∷ []; map = []; arrow = way; trail = None; at = 0 }; node = node "b" labels } ∷ [];
    } ∷ []) ∷ [])

abbrev tables : Choice → List ℕ
tables c = c.tables

abbrev shown : Choice → List (ℕ × Bool) × List ℕ
shown c = (map (λ r. (r.table, r.reversed)) c.readings, c.tables)

-- (n:Person)
person : map tables (pattern_alternatives g.catalog (alone (codes "Person" ∷ []))) ≡ (0 ∷ []) ∷ (1 ∷ []) ∷ []
unfolding pattern_alternatives choices pattern_of tuples
person = refl

-- (n:Student:Person)
student : map tables (pattern_alternatives g.catalog (alone (codes "Student" ∷ codes "Person" ∷ []))) ≡ (1 ∷ []) ∷ []
unfolding pattern_alternatives choices pattern_of tuples
student = refl

-- (n:Person:Teacher)
teacher : pattern_alternatives g.catalog (alone (codes "Person" ∷ codes "Teacher" ∷ [])) ≡ []
unfolding pattern_alternatives choices pattern_of tuples
teacher = refl

-- (a)-[:KNOWS]->(b), by table
forward : map shown (pattern_alternatives g.catalog (knows arrow.Right [])) ≡ ((0, false) ∷ [], 0 ∷ 0 ∷ []) ∷ ((1, false) ∷ [], 1 ∷ 0 ∷ []) ∷ []
unfolding pattern_alternatives choices pattern_of tuples
forward = refl

-- (a)-[:KNOWS]-(b), by table and then by way
either : map shown (pattern_alternatives g.catalog (knows arrow.Either []))
    ≡ ((0, false) ∷ [], 0 ∷ 0 ∷ []) ∷ ((0, true) ∷ [], 0 ∷ 0 ∷ []) ∷ ((1, false) ∷ [], 1 ∷ 0 ∷ []) ∷ ((1, true) ∷ [], 0 ∷ 1 ∷ []) ∷ []
unfolding pattern_alternatives choices pattern_of tuples
either = refl

-- the tables and numbers of the relationships, and the tables of the nodes, that a match has
abbrev found : Assignment → List (ℕ × ℕ) × List ℕ
found t = (map (λ r. (r.table, r.row)) t.rels, map (λ n. n.table) t.nodes)

-- (a)-[:KNOWS]-(b:Student) and the matches of all of KNOWS
known : map found (pattern_matches g (knows arrow.Either (codes "Student" ∷ []))) ≡ ((1, 0) ∷ [], 0 ∷ 1 ∷ []) ∷ []
unfolding pattern_matches pattern_of assignments tuples nodes_of all_nodes rels_of all_rels source target
known = refl

all_known : map found (pattern_matches g (knows arrow.Right [])) ≡ ((0, 0) ∷ [], 0 ∷ 0 ∷ []) ∷ ((0, 1) ∷ [], 0 ∷ 0 ∷ []) ∷ ((1, 0) ∷ [], 1 ∷ 0 ∷ []) ∷ []
unfolding pattern_matches pattern_of assignments tuples nodes_of all_nodes rels_of all_rels source target
all_known = refl
