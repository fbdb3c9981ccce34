-- Relationships of a type that are met at a node, one after another.
use Rattle.std.specs.Prelude.{◌≡◌, ℕ, ◌+◌, ◌^◌, ◌<◌, All, length, if◌then◌else◌, nat_eq, Bool, true, ◌&&◌, Option, Some, None, MatchOption, List, [], ◌∷◌, ◌++◌, filter, flat_map, drop, get_or, slice_get}
use Rattle.std.specs.Cmp.Lexicographic.{pointwise}
use Rattle.std.specs.List.{list_any}
use Rattle.gq_base.specs.Directions.{opposite}
use Rattle.gq_base.specs.Plain.{Graph}
use Rattle.gq_base.specs.declared.NodeId.{NodeId}
use Rattle.gq_base.specs.declared.RelId.{RelId}
use Rattle.gq_base.specs.declared.RelTable.{RelTable}
use Rattle.gq_base.specs.declared.direction.Direction.{Direction}
use Rattle.gq_base.specs.declared.direction.Direction.TheVariants.{Forward, Backward}
use Rattle.gq_plan.specs.Assignments.{is_node, rels_of}
use Rattle.gq_plan.specs.Meaning.{far}
use Rattle.gq_store.specs.Neighbours.{near_rows, neighbours, numbers}
use Rattle.gq_hops.specs.declared.follow.Follow.{Follow}
use Rattle.gq_hops.specs.declared.follow.Hop.{Hop}
use Rattle.gq_hops.specs.declared.follow.Frame.{Frame}
use Rattle.gq_hops.specs.declared.follow.Met.{Met}
use Rattle.gq_hops.specs.declared.hop.Near.{Near}
use Rattle.gq_hops.specs.declared.follow.Followed.{Followed}
use Rattle.gq_hops.specs.Levels.{is_met}
use Rattle.gq_hops.specs.steps.Nears.{rows_in}

-- ---- tables

-- the node tables at which relationships of a table are met on a way, and to which they lead
abbrev pub near_table : Direction → RelTable → ℕ
near_table Forward k = k.from
near_table Backward k = k.to

abbrev pub far_table : Direction → RelTable → ℕ
far_table Forward k = k.to
far_table Backward k = k.from

abbrev pub followed : Direction → ℕ → RelTable → Followed
followed way t k = record { table = t; near = near_table way k; far = far_table way k }

-- of the tables from a number on, those of a type
abbrev pub tables_of : List ℕ → Direction → ℕ → List RelTable → List Followed
tables_of kind way t [] = []
tables_of kind way t (k ∷ ks) = (if pointwise nat_eq k.name kind then followed way t k ∷ [] else []) ++ tables_of kind way (t + 1) ks

abbrev pub tables_in : Graph → List ℕ → Direction → List Followed
tables_in g kind way = tables_of kind way 0 g.catalog.rels

abbrev pub AreTables : Follow → Type 0
AreTables f = f.tables.items ≡ tables_in f.graph.now f.kind.now f.way

-- ---- what is left at a node

-- the relationships of a table that are met at a node
abbrev pub met_in : Graph → List ℕ → Direction → Option NodeId → ℕ → List RelId
met_in g kind way at table = filter (is_met g kind way at) (rels_of g table)

-- those of the first of these tables from a place on, and those of the others
abbrev pub left_from : Graph → List ℕ → Direction → NodeId → ℕ → List Followed → List RelId
left_from g kind way at place [] = []
left_from g kind way at place (e ∷ es) = drop place (met_in g kind way (Some at) e.table) ++ flat_map (λ q. met_in g kind way (Some at) q.table) es

-- those from a place of a table of the type on, which is known by its number among these
unfoldable pub left_at : Graph → List ℕ → Direction → NodeId → ℕ → ℕ → List RelId
left_at g kind way at table place = left_from g kind way at place (drop table (tables_in g kind way))

abbrev pub left_of : Follow → Frame → List RelId
left_of f l = left_at f.graph.now f.kind.now f.way l.at l.table l.place

-- the rows to which relationships of a table lead from a node
abbrev near_rows_of : Graph → Direction → NodeId → Option Followed → List ℕ
near_rows_of g way at None = []
near_rows_of g way at (Some e) = if nat_eq e.near at.table then neighbours g e.table way at.row else []

abbrev pub near_in : Graph → List ℕ → Direction → NodeId → ℕ → List ℕ
near_in g kind way at table = near_rows_of g way at (slice_get (tables_in g kind way) table)

pub record IsNearIn (g : Graph) (kind : List ℕ) (way : Direction) (at : NodeId) (table : ℕ) (near : Near) : Type 0 where
  pub rows : rows_in near ≡ near_in g kind way at table
  pub few : length (rows_in near) < 2 ^ 32
  pub ends : (e : Followed) → slice_get (tables_in g kind way) table ≡ Some e → All (λ other. other < near_rows g e.table (opposite way)) (rows_in near)

abbrev pub IsNear : Follow → NodeId → ℕ → Near → Type 0
IsNear f at table near = IsNearIn f.graph.now f.kind.now f.way at table near

-- a level is at a node of the graph, and has the rows there
pub record IsLevelIn (g : Graph) (kind : List ℕ) (way : Direction) (l : Frame) : Type 0 where
  pub node : is_node g l.at ≡ true
  pub near : IsNearIn g kind way l.at l.table l.near

abbrev pub IsLevel : Follow → Frame → Type 0
IsLevel f l = IsLevelIn f.graph.now f.kind.now f.way l

-- nothing of a table was tried yet at a node
pub record IsStart (at : NodeId) (table : ℕ) (l : Frame) : Type 0 where
  pub at_is : l.at ≡ at
  pub table_is : l.table ≡ table
  pub place_is : l.place ≡ 0

-- the first of what is left, with the node to which it leads
pub record IsFirst (f : Follow) (old new : Frame) (h : Hop) : Type 0 where
  pub level : IsLevel f new
  pub left : left_of f old ≡ h.rel ∷ left_of f new
  pub leads : far f.graph.now f.way h.rel ≡ Some h.node
  pub there : is_node f.graph.now h.node ≡ true

-- relationships of some table lead to the nodes of a table
abbrev pub is_far : List Followed → ℕ → Bool
is_far es table = list_any (λ (e : Followed). nat_eq e.far table) es

-- where a relationship stands that is met at a node
pub record IsSiteIn (g : Graph) (es : List Followed) (way : Direction) (m : Met) : Type 0 where
  pub far : is_far es m.node.table ≡ true
  pub within : m.table < length g.catalog.rels
  pub near : m.near < near_rows g m.table way
  pub leads : slice_get (neighbours g m.table way m.near) m.place ≡ Some m.node.row

abbrev pub IsSite : Follow → Met → Type 0
IsSite f m = IsSiteIn f.graph.now f.tables.items f.way m

-- two of them are one
abbrev pub same_site : Met → Met → Bool
same_site m q = (nat_eq m.place q.place && nat_eq m.near q.near) && nat_eq m.table q.table

-- the relationship that stands there
abbrev pub rel_of : Graph → Direction → Met → RelId
rel_of g way m = record { table = m.table; row = get_or (numbers g m.table way m.near) m.place 0 }

-- which one stands there
pub record IsHop (f : Follow) (m : Met) (h : Hop) : Type 0 where
  pub number : slice_get (numbers f.graph.now m.table f.way m.near) m.place ≡ Some h.rel.row
  pub table : h.rel.table ≡ m.table
  pub node : h.node ≡ m.node

-- the first of what is left, where it stands
pub record IsMetNext (f : Follow) (old new : Frame) (m : Met) : Type 0 where
  pub hop : Hop
  pub is : IsHop f m hop
  pub site : IsSite f m
  pub first : IsFirst f old new hop

abbrev pub IsNextMet : Follow → Frame → Frame → Option Met → Type 0
IsNextMet f old new found = MatchOption found (left_of f old ≡ []) (IsMetNext f old new)

-- the first of what is left stands at the level's place
pub record IsHere (f : Follow) (l : Frame) (m : Met) : Type 0 where
  pub next : IsMetNext f l (record l { place = l.place + 1 }) m
  pub few : l.place + 1 < 2 ^ 32

-- if its table has one there; else only what the tables behind have is left
abbrev pub IsMetHere : Follow → Frame → Option Met → Type 0
IsMetHere f l found = MatchOption found (left_of f l ≡ left_at f.graph.now f.kind.now f.way l.at (l.table + 1) 0) (IsHere f l)
