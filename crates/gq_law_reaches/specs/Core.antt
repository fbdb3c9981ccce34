-- The core of a query with trails: the node variables that the alternatives bind; and how each trail is walked from what is bound
-- when its turn comes (this project's profile).
use Rattle.std.specs.Prelude.{not, ℕ, ◌+◌, nat_eq, nat_lt, Bool, true, false, ◌&&◌, ◌||◌, Option, Some, None, List, [], ◌∷◌, ◌++◌, map, filter, flat_map, length, slice_get, take, if◌then◌else◌}
use Rattle.std.specs.List.{list_all, range_with_len}
use Rattle.gq_base.specs.Plain.{Graph}
use Rattle.gq_base.specs.declared.RelId.{RelId}
use Rattle.gq_base.specs.declared.direction.Direction.{Direction}
use Rattle.gq_base.specs.declared.direction.Direction.TheVariants.{Forward, Backward}
use Rattle.gq_alternatives.specs.Matches.{entry_holds, node_holds, pattern_matches}
use Rattle.gq_plan.specs.Assignments.{Assignment}
use Rattle.gq_plan.specs.Meaning.{Partial}
use Rattle.gq_plan.specs.Soundness.{has_number}
use Rattle.gq_plan.specs.declared.PathPart.{PathPart}
use Rattle.gq_plan.specs.declared.variable.Variable.{Variable}
use Rattle.gq_plan.specs.declared.variable.Variable.TheVariants.{Node as node, Rel as rel}
use Rattle.gq_scopes.specs.Patterns.{MapEntry, Name, NodePattern, Pattern, RelPattern}
use Rattle.gq_law_trails.specs.Trails.{Trailing, after_trails}
use Rattle.gq_plan.specs.declared.TrailPart.{TrailPart}
use Rattle.gq_law_reaches.specs.Reaches.{TrailPattern, Trailed, rels_in}
use Rattle.gq_plan.specs.declared.NamedExpr.{NamedExpr}

-- ---- the core

abbrev pub right_at : Option RelPattern → List ℕ
right_at None = []
right_at (Some r) = r.right ∷ []

abbrev pub from_first : ℕ → List ℕ → List RelPattern → List ℕ
from_first first [] rels = []
from_first first (x ∷ xs) rels = first ∷ flat_map (λ y. right_at (slice_get rels y)) (x ∷ xs)

-- the node variables of a piece that has a relationship
abbrev pub joined_nodes : Pattern → PathPart → List ℕ
joined_nodes p piece = from_first piece.first piece.rels p.rels

-- the variables of such pieces, and of whole paths of one node
abbrev pub first_core : Trailed → List ℕ
first_core q = flat_map (joined_nodes q.pattern) q.pattern.paths ++ q.alone

-- the core with the left ends of trails of which neither end is bound when their turn comes
abbrev pub grown : List ℕ → List ℕ → List TrailPattern → List ℕ
grown core bound [] = core
grown core bound (p ∷ ps) =
    if has_number bound p.left || has_number bound p.right then grown core (p.left ∷ p.right ∷ bound) ps
    else grown (p.left ∷ core) (p.left ∷ p.right ∷ bound) ps

-- the core's node variables, in order; each of its relationship variables is in the core
abbrev pub core_nodes : Trailed → List ℕ
core_nodes q = filter (has_number (grown (first_core q) (first_core q) q.trails)) (range_with_len 0 (length q.pattern.names))

-- ---- how trails are walked

-- the labels and the map entries that the node patterns of a variable have
abbrev pub labels_of : Pattern → ℕ → List Name
labels_of p v = flat_map (λ (n : NodePattern). if nat_eq n.variable v then n.part.labels else []) p.nodes

abbrev pub is_node_at : ℕ → Variable → Bool
is_node_at v (node w) = nat_eq w v
is_node_at v (rel x) = false

abbrev pub entries_at : Pattern → ℕ → List MapEntry
entries_at p v = filter (λ (e : MapEntry). is_node_at v e.variable) p.entries

abbrev pub way_of : Bool → Bool → Direction
way_of true true = Forward
way_of true false = Backward
way_of false true = Backward
way_of false false = Forward

-- a trail, by whether its ends are bound: it is walked from its left end where that is bound, else from its right end
abbrev pub part_of : (MapEntry → NamedExpr) → Pattern → Bool → Bool → TrailPattern → TrailPart
part_of test p left right t =
    let to : ℕ = if left then t.right else t.left in
    record {
      kind = t.kind;
      low = t.low;
      high = t.high;
      from = if left then t.left else t.right;
      to = to;
      clause = t.clause;
      way = way_of left t.forward;
      both = left && right;
      labels = if left && right then [] else labels_of p to;
      tests = if left && right then [] else map test (entries_at p to);
    }

-- all trails, in text order, where so much is bound
abbrev pub parts_from : (MapEntry → NamedExpr) → Pattern → List ℕ → List TrailPattern → List TrailPart
parts_from test p bound [] = []
parts_from test p bound (t ∷ ts) = part_of test p (has_number bound t.left) (has_number bound t.right) t ∷ parts_from test p (t.left ∷ t.right ∷ bound) ts

abbrev pub trail_parts : (MapEntry → NamedExpr) → Trailed → List TrailPart
trail_parts test q = parts_from test q.pattern (core_nodes q) q.trails

-- ---- what trails are walked from, where the core's variables are numbered first

abbrev is_below : ℕ → Variable → Bool
is_below k (node v) = nat_lt v k
is_below k (rel x) = true

abbrev pub is_core_entry : ℕ → MapEntry → Bool
is_core_entry k e = is_below k e.variable

-- the patterns of the first k node variables
abbrev pub core_pattern : ℕ → Pattern → Pattern
core_pattern k p = record p {
  names = take k p.names;
  nodes = filter (λ (n : NodePattern). nat_lt n.variable k) p.nodes;
  entries = filter (is_core_entry k) p.entries;
}

abbrev pub core_part : ℕ → Assignment → Assignment
core_part k t = record { nodes = take k t.nodes; rels = t.rels }

-- items with their numbers
abbrev pub numbered : {X : Type 0} → ℕ → List X → List (ℕ × X)
numbered i [] = []
numbered i (x ∷ xs) = (i, x) ∷ numbered (i + 1) xs

-- a match of the core, as what is bound
abbrev pub begin_of : Assignment → Partial
begin_of c = record { nodes = numbered 0 c.nodes; rels = numbered 0 c.rels }

-- what the relationship patterns of a clause have there
abbrev pub patterns_of : Pattern → Partial → ℕ → List RelId
patterns_of p a clause = rels_in clause p.rels (map (λ (b : ℕ × RelId). b.1) a.rels)

-- the matches of the core, continued by trails
abbrev pub continued : Graph → ℕ → Pattern → List TrailPart → List Trailing
continued g k p parts =
    flat_map (λ a. after_trails g (patterns_of p a) parts a []) (map begin_of (pattern_matches g (core_pattern k p)))

-- the labels and the map entries of the other node variables hold
abbrev pub outer_match : Graph → ℕ → Pattern → Assignment → Bool
outer_match g k p t =
    list_all (node_holds g t) (filter (λ (n : NodePattern). not (nat_lt n.variable k)) p.nodes)
    && list_all (entry_holds g t) (filter (λ (e : MapEntry). not (is_core_entry k e)) p.entries)
