-- The laws that trails are walked as they are meant, where the lists of those that are walked against their arrow are turned.
use Rattle.std.specs.Prelude.{◌≡◌, ℕ, ◌≤◌, nat_eq, nat_lt, ◌<◌, not, true, false, Bool, ◌&&◌, List, [], ◌∷◌, ◌++◌, length, slice_get, map, filter, Option, Some, None}
use Rattle.std.specs.List.{AllByRecursion, list_all, list_any}
use Rattle.gq_plan.specs.declared.variable.Variable.TheVariants.{Node as node, Rel as rel}
use Rattle.gq_base.specs.Lists.{all_distinct}
use Rattle.gq_base.specs.Plain.{Graph}
use Rattle.gq_base.specs.Valid.{is_valid}
use Rattle.gq_base.specs.declared.direction.Direction.{Direction}
use Rattle.gq_plan.specs.Meaning.{near}
use Rattle.gq_law_trails.specs.Walks.{chained}
use Rattle.gq_base.specs.declared.RelId.{RelId}
use Rattle.gq_alternatives.specs.Matches.{entry_holds, is_match, node_holds}
use Rattle.gq_base.specs.declared.NodeId.{NodeId}
use Rattle.gq_plan.specs.Counts.{bit, hits}
use Rattle.gq_law_trails.specs.Real.{is_real}
use Rattle.gq_plan.specs.Assignments.{Assignment, is_node, is_rel, same_rel}
use Rattle.gq_scopes.specs.Patterns.{MapEntry, NodePattern, Pattern, RelPattern, Name}
use Rattle.gq_law_trails.specs.Trails.{fits_end}
use Rattle.gq_plan.specs.declared.TrailPart.{TrailPart}
use Rattle.gq_law_trails.specs.Apart.{lists_for}
use Rattle.gq_law_trails.specs.Asked.{trails_asked}
use Rattle.gq_law_trails.specs.Met.{AreOrdered, end_fits, is_trailed, turned}
use Rattle.gq_law_reaches.specs.Core.{continued, core_part, core_pattern, entries_at, labels_of, outer_match, parts_from}
use Rattle.gq_law_reaches.specs.Reaches.{TrailPattern, Trailed, is_reach, lists_in, rels_in, trails_hold}
use Rattle.gq_plan.specs.declared.NamedExpr.{NamedExpr}
use Rattle.gq_expr.specs.Reading as reading
use Rattle.gq_expr.specs.Reading.{node_property, property_at, rel_property}
use Rattle.gq_base.specs.Values.{Val, equal_vals, literal_val}
use Rattle.gq_plan.specs.Conditions.{passes}
use Rattle.gq_plan.specs.declared.variable.Variable.{Variable}

-- the lists of trails as they are walked
abbrev pub turned_all : List TrailPart → List (List RelId) → List (List RelId)
turned_all [] ls = []
turned_all (q ∷ qs) [] = []
turned_all (q ∷ qs) (l ∷ ls) = turned q.way l ∷ turned_all qs ls

-- the other end of each trail is as asked, where the trail binds it
abbrev pub ends_fit : Graph → Assignment → List TrailPart → Bool
ends_fit g t parts = list_all (λ (q : TrailPart). end_fits g q (slice_get t.nodes q.to)) parts

-- what the parts of trails ask of turned lists is what the trails hold of the lists
abbrev pub TrailsAskedAsHeld : Type 0
TrailsAskedAsHeld =
    (g : Graph) (test : MapEntry → NamedExpr) (p : Pattern) (known : List ℕ) (ts : List TrailPattern) (t : Assignment) (ls : List (List RelId)) → length ts ≡ length ls
    → trails_asked g (parts_from test p known ts) t (turned_all (parts_from test p known ts) ls)
    ≡ ((list_all (list_all (is_rel g)) ls && trails_hold g t ts ls) && ends_fit g t (parts_from test p known ts))

-- in the clauses of the trails all relationships are different, with turned lists as with the lists
abbrev pub TurnedDiffer : Type 0
TurnedDiffer =
    (test : MapEntry → NamedExpr) (p : Pattern) (known : List ℕ) (ts : List TrailPattern) (have : ℕ → List RelId) (ls : List (List RelId))
    → list_all (λ (q : TrailPart). all_distinct same_rel (have q.clause ++ lists_for q.clause (parts_from test p known ts) (turned_all (parts_from test p known ts) ls))) (parts_from test p known ts)
    ≡ list_all (λ (q : TrailPattern). all_distinct same_rel (have q.clause ++ lists_in q.clause ts ls)) ts

-- so an assignment stands with its lists, turned, among the core's matches that trails continue
abbrev pub CoreContinuedAsTrails : Type 0
CoreContinuedAsTrails =
    (g : Graph) (test : MapEntry → NamedExpr) (k : ℕ) (p : Pattern) (known : List ℕ) (ts : List TrailPattern) (t : Assignment) (ls : List (List RelId))
    → k ≤ length p.names → length t.nodes ≡ length p.names → length t.rels ≡ length p.rels → length ts ≡ length ls → AreOrdered (parts_from test p known ts) (λ v. nat_lt v k)
    → hits (is_trailed t (turned_all (parts_from test p known ts) ls)) (continued g k p (parts_from test p known ts))
    ≡ bit
    ((is_real g (core_part k t) && is_match g (core_pattern k p) (core_part k t))
    && (((list_all (list_all (is_rel g)) ls && trails_hold g t ts ls) && ends_fit g t (parts_from test p known ts))
    && list_all (λ (q : TrailPattern). all_distinct same_rel (rels_in q.clause p.rels t.rels ++ lists_in q.clause ts ls)) ts))

abbrev pub is_so : Option Bool → Bool
is_so None = false
is_so (Some b) = b

-- a property of a variable in a row, null where it is missing
abbrev pub value_in : Graph → reading.Assignment → Variable → Name → Val
value_in g r (node v) name = property_at (node_property g) (r.nodes v) name
value_in g r (rel x) name = property_at (rel_property g) (r.rels x) name

-- the test of a map entry `{k: c}` of a variable v passes exactly where `v.k = c` is true
abbrev pub AreTests : (MapEntry → NamedExpr) → Type 0
AreTests test =
    (g : Graph) (r : reading.Assignment) (e : MapEntry)
    → passes g r (test e) ≡ is_so (equal_vals (value_in g r e.variable e.entry.key) (literal_val e.entry.value))

-- what a trail asks of the node that it binds is what the labels and the map entries of that variable ask of an assignment that has it
abbrev pub EndFitsAsMatched : Type 0
EndFitsAsMatched =
    (g : Graph) (test : MapEntry → NamedExpr) (p : Pattern) (q : TrailPart) (t : Assignment) (n : NodeId)
    → AreTests test → q.labels ≡ labels_of p q.to → q.tests ≡ map test (entries_at p q.to) → slice_get t.nodes q.to ≡ Some n
    → fits_end g q n ≡ (list_all (node_holds g t) (filter (λ (m : NodePattern). nat_eq m.variable q.to) p.nodes) && list_all (entry_holds g t) (entries_at p q.to))

-- a part that binds its other end asks there for what its patterns ask, and it is outside the core, the first k variables
abbrev pub IsBinding : (MapEntry → NamedExpr) → ℕ → Pattern → TrailPart → Type 0
IsBinding test k p q = q.both ≡ false → (nat_lt q.to k ≡ false) × (q.labels ≡ labels_of p q.to) × (q.tests ≡ map test (entries_at p q.to))

-- a part binds a variable
abbrev pub binds : ℕ → TrailPart → Bool
binds v q = not q.both && nat_eq q.to v

-- parts bind each variable outside the core, and no other; all variables have nodes
pub record AreBinding (test : MapEntry → NamedExpr) (k : ℕ) (p : Pattern) (t : Assignment) (parts : List TrailPart) : Type 0 where
  pub binding : AllByRecursion (IsBinding test k p) parts
  pub ends : AllByRecursion (λ (q : TrailPart). q.to < length t.nodes) parts
  pub all : (v : ℕ) → nat_lt v k ≡ false → v < length t.nodes → list_any (binds v) parts ≡ true
  pub nodes : AllByRecursion (λ (m : NodePattern). m.variable < length t.nodes) p.nodes
  pub entries : AllByRecursion (λ (e : MapEntry). (v : ℕ) → e.variable ≡ node v → v < length t.nodes) p.entries

-- then the other ends are as asked exactly where the labels and the map entries of the variables outside the core hold
abbrev pub EndsAreOuter : Type 0
EndsAreOuter =
    (g : Graph) (test : MapEntry → NamedExpr) (k : ℕ) (p : Pattern) (t : Assignment) (parts : List TrailPart)
    → AreTests test → AreBinding test k p t parts → ends_fit g t parts ≡ outer_match g k p t

-- so an assignment stands with its lists, turned, among the core's matches that trails continue exactly where its core and its lists are
-- of the graph, and it is with its lists a match of the query with trails
abbrev pub CoreContinuedAsReaches : Type 0
CoreContinuedAsReaches =
    (g : Graph) (test : MapEntry → NamedExpr) (k : ℕ) (q : Trailed) (known : List ℕ) (t : Assignment) (ls : List (List RelId))
    → k ≤ length q.pattern.names → length t.nodes ≡ length q.pattern.names → length t.rels ≡ length q.pattern.rels → length q.trails ≡ length ls
    → AreOrdered (parts_from test q.pattern known q.trails) (λ v. nat_lt v k) → AreTests test → AreBinding test k q.pattern t (parts_from test q.pattern known q.trails)
    → AllByRecursion (λ (r : RelPattern). (r.left < k) × (r.right < k)) q.pattern.rels
    → hits (is_trailed t (turned_all (parts_from test q.pattern known q.trails) ls)) (continued g k q.pattern (parts_from test q.pattern known q.trails))
    ≡ bit ((is_real g (core_part k t) && list_all (list_all (is_rel g)) ls) && is_reach g q (record { base = t; trails = ls }))

-- the nodes at both ends of a relationship of a valid graph are nodes of it
abbrev pub EndsAreNodes : Type 0
EndsAreNodes = (g : Graph) (way : Direction) (r : RelId) (n : NodeId) → is_valid g ≡ true → near g way r ≡ Some n → is_node g n ≡ true

-- so where relationships of a valid graph lead from one node to another, and there are some, both are nodes of the graph
abbrev pub ChainsLieIn : Type 0
ChainsLieIn =
    (g : Graph) (a b : Option NodeId) (l : List RelId) (n : NodeId) → is_valid g ≡ true → 1 ≤ length l → chained g a l b ≡ true
    → (a ≡ Some n → is_node g n ≡ true) × (b ≡ Some n → is_node g n ≡ true)
