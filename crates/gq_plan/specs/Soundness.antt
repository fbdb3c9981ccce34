-- When a typed alternative is sound for a catalogue (this project's profile: the limits of 24 and of 64).
use Rattle.std.specs.Prelude.{◌≡◌, ℕ, nat_eq, ◌<◌, ◌≤◌, Bool, true, false, ◌&&◌, IsTrue, IsPermutation, Option, Some, None, List, [], ◌∷◌, map, flat_map, length, slice_get, option_map, if◌then◌else◌, All}
use Rattle.gq_plan.specs.declared.variable.Variable.TheVariants.{Node as node, Rel as rel}
use Rattle.gq_plan.specs.declared.variable.Variable.{Variable}
use Rattle.std.specs.List.{range_with_len, list_any}
use Rattle.gq_base.specs.Catalogs.{Tables}
use Rattle.gq_base.specs.declared.Field.{Field}
use Rattle.gq_base.specs.declared.NodeTable.{NodeTable}
use Rattle.gq_base.specs.declared.RelTable.{RelTable}
use Rattle.gq_expr.specs.Kinds.{can_fault}
use Rattle.gq_expr.specs.declared.Kinds.{Kinds}
use Rattle.gq_plan.specs.Reads.{Read, reads, properties, distinct}
use Rattle.gq_plan.specs.declared.typed.PathPart.{PathPart}
use Rattle.gq_plan.specs.declared.typed.RelPair.{RelPair}
use Rattle.gq_plan.specs.declared.typed.Typed.{Typed}
use Rattle.gq_plan.specs.declared.typed.TypedRel.{TypedRel}

-- the most node variables, and the most relationships, of a query
abbrev pub max_variables : ℕ
max_variables = 24

-- the most different properties of variables that the tests of a query read
abbrev pub max_reads : ℕ
max_reads = 64

-- a relationship's ends have the tables that the catalogue gives the ends of its table
pub record EndsFit (catalog : Tables) (y : Typed) (r : TypedRel) : Type 0 where
  pub table : r.table < length catalog.rels
  pub source : slice_get y.nodes r.source ≡ option_map (λ k. k.from) (slice_get catalog.rels r.table)
  pub target : slice_get y.nodes r.target ≡ option_map (λ k. k.to) (slice_get catalog.rels r.table)

-- the node variables at the left and at the right of a relationship's pattern
abbrev pub left_of : TypedRel → ℕ
left_of r = if r.reversed then r.target else r.source

abbrev pub right_of : TypedRel → ℕ
right_of r = if r.reversed then r.source else r.target

-- the relationships of a path, where they are there
abbrev pub path_rels : Typed → PathPart → List (Option TypedRel)
path_rels y p = map (slice_get y.rels) p.rels

-- from a node variable on, each relationship begins at the left where the one before it ends
abbrev pub joined : ℕ → List (Option TypedRel) → Bool
joined at [] = true
joined at (None ∷ rs) = false
joined at (Some r ∷ rs) = nat_eq (left_of r) at && joined (right_of r) rs

-- the node variables at the right of relationships
abbrev pub rights : List (Option TypedRel) → List ℕ
rights [] = []
rights (None ∷ rs) = rights rs
rights (Some r ∷ rs) = right_of r ∷ rights rs

-- the node variables of a path
abbrev pub path_nodes : Typed → PathPart → List ℕ
path_nodes y p = p.first ∷ rights (path_rels y p)

abbrev pub has_number : List ℕ → ℕ → Bool
has_number ns n = list_any (nat_eq n) ns

-- a variable is one of the alternative's
abbrev pub HasVariable : Typed → Variable → Type 0
HasVariable y (node n) = n < length y.nodes
HasVariable y (rel n) = n < length y.rels

abbrev pub node_fields : Option NodeTable → List Field
node_fields None = []
node_fields (Some k) = k.fields

abbrev pub rel_fields : Option RelTable → List Field
rel_fields None = []
rel_fields (Some k) = k.fields

-- the fields that tables give each variable: those of the variable's table
abbrev pub kinds_for : Tables → List ℕ → List TypedRel → Kinds
kinds_for catalog nodes rels = record {
  nodes = map (λ t. node_fields (slice_get catalog.nodes t)) nodes;
  rels = map (λ r. rel_fields (slice_get catalog.rels r.table)) rels;
}

abbrev pub kinds_of : Tables → Typed → Kinds
kinds_of catalog y = kinds_for catalog y.nodes y.rels

-- what the tests read
abbrev pub test_reads : Typed → List Read
test_reads y = flat_map (λ t. reads t.expr) y.tests

-- two relationships of the alternative, in order
pub record IsPair (y : Typed) (p : RelPair) : Type 0 where
  pub ascends : p.first < p.second
  pub within : p.second < length y.rels

-- a typed alternative is sound for a catalogue
pub record IsSound (catalog : Tables) (y : Typed) : Type 0 where
  pub tables : All (λ t. t < length catalog.nodes) y.nodes
  pub ends : All (EndsFit catalog y) y.rels
  pub pairs : All (IsPair y) y.pairs
  pub starts : All (λ p. p.first < length y.nodes) y.paths
  pub joins : All (λ p. IsTrue (joined p.first (path_rels y p))) y.paths
  pub every_node : (v : ℕ) → v < length y.nodes → IsTrue (has_number (flat_map (path_nodes y) y.paths) v)
  pub every_rel : IsPermutation (flat_map (λ p. p.rels) y.paths) (range_with_len 0 (length y.rels))
  pub nodes_fit : length y.nodes ≤ max_variables
  pub rels_fit : length y.rels ≤ max_variables
  pub names : All (λ r. HasVariable y r.variable) (test_reads y)
  pub reads_fit : length (distinct (properties (test_reads y))) ≤ max_reads
  pub never_fault : All (λ t. can_fault (kinds_of catalog y) t.expr ≡ false) y.tests
