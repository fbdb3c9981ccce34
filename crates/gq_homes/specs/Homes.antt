-- Where the variables that the steps of a plan bind live in the groups of its chunks.
use Rattle.std.specs.Prelude.{◌≡◌, ◌<◌, ◌≤◌, ℕ, Bool, true, false, List, filter, length, take, slice_index_or}
use Rattle.std.specs.List.{range_with_len, sum_by}
use Rattle.gq_base.specs.Valid.{row_count}
use Rattle.gq_base.specs.declared.direction.Direction.{Direction}
use Rattle.gq_base.specs.declared.direction.Direction.TheVariants.{Forward, Backward}
use Rattle.gq_group.specs.declared.home.Homes.{Homes}
use Rattle.gq_group.specs.declared.home.NodeHome.{NodeHome}
use Rattle.gq_group.specs.declared.home.NodeHome.TheVariants as node
use Rattle.gq_group.specs.declared.home.RelHome.{RelHome}
use Rattle.gq_group.specs.declared.home.RelHome.TheVariants as rel
use Rattle.gq_join.specs.Kept.{place_of}
use Rattle.gq_plan.specs.Columns.{own_columns}
use Rattle.gq_plan.specs.Covers.{after}
use Rattle.gq_plan.specs.Known.{Known, none}
use Rattle.gq_plan.specs.Plans.{Plan, Step, Scan, Extend, Close, Join, Single}
use Rattle.gq_plan.specs.Soundness.{has_number}
use Rattle.gq_plan.specs.Rows.{node_table, rel_table}
use Rattle.gq_store.specs.Neighbours.{is_listed, near_rows}
use Rattle.gq_steps.specs.Levels.{Run, step_at, known}
use Rattle.gq_steps.specs.Groups.{group_at}
use Rattle.gq_homes.specs.declared.homes.Filling.{Filling}
use Rattle.gq_homes.specs.declared.homes.Filling.TheVariants.{Led, Kept}
use Rattle.gq_homes.specs.declared.homes.Keeping.{Keeping}
use Rattle.gq_homes.specs.declared.homes.Leading.{Leading}
use Rattle.gq_steps.specs.declared.group_steps.GroupSteps.{GroupSteps}

abbrev pub is_forward : Direction → Bool
is_forward Forward = true
is_forward Backward = false

abbrev pub node_home : Homes → ℕ → NodeHome
node_home h v = slice_index_or h.nodes v node.Nowhere

abbrev pub rel_home : Homes → ℕ → RelHome
rel_home h x = slice_index_or h.rels x rel.Nowhere

-- a column of a group that follows relationships, and one that has nodes of a build
abbrev pub leading_of : ℕ → ℕ → ℕ → Direction → Leading
leading_of i x from way = record { group = i; rel = x; from = from; direction = way }

abbrev pub filling_of : ℕ → ℕ → ℕ → Direction → Filling
filling_of i x from way = Led (leading_of i x from way)

abbrev pub kept_of : ℕ → ℕ → ℕ → Filling
kept_of i d v = Kept (record { group = i; depth = d; node = v })

abbrev pub no_filling : Filling
no_filling = filling_of 0 0 0 Forward

abbrev pub filling_at : List Filling → ℕ → Filling
filling_at fs column = slice_index_or fs column no_filling

-- the group of a column
abbrev pub column_group : Filling → ℕ
column_group (Led f) = f.group
column_group (Kept f) = f.group

-- a column of a group
pub record IsColumnOf (fs : List Filling) (i column : ℕ) : Type 0 where
  pub inside : column < length fs
  pub group : column_group (filling_at fs column) ≡ i

-- what a column extension binds lives in a column of its group
pub record HasColumn (fs : List Filling) (h : Homes) (i x from to : ℕ) (way : Direction) : Type 0 where
  pub column : ℕ
  pub inside : column < length fs
  pub filling : filling_at fs column ≡ filling_of i x from way
  pub node_is : node_home h to ≡ node.Column i column
  pub edge_is : rel_home h x ≡ rel.Single from (is_forward way)

-- a node variable that a join brings lives in a column of its group
pub record HasKeptColumn (fs : List Filling) (h : Homes) (i v : ℕ) : Type 0 where
  pub column : ℕ
  pub depth : ℕ
  pub inside : column < length fs
  pub filling : filling_at fs column ≡ kept_of i depth v
  pub node_is : node_home h v ≡ node.Column i column

-- so do all that are no keys, and the relationships live where each row of the build has them
pub record HasMatch (fs : List Filling) (h : Homes) (i : ℕ) (side : Plan) (keys : List ℕ) : Type 0 where
  pub nodes : (v : ℕ) → (after side none).nodes v ≡ true → has_number keys v ≡ false → HasKeptColumn fs h i v
  pub rels : (x : ℕ) → (after side none).rels x ≡ true → rel_home h x ≡ rel.Kept i (place_of (filter (after side none).rels (range_with_len 0 (length h.rels))) x)

-- what a step binds has its home
abbrev pub IsHoused : List Filling → Homes → ℕ → Step → Type 0
IsHoused fs h i (Scan v) = node_home h v ≡ node.Item i
IsHoused fs h i (Extend false x from to way) = (node_home h to ≡ node.Item i) × (rel_home h x ≡ rel.Listed i from (is_forward way))
IsHoused fs h i (Extend true x from to way) = HasColumn fs h i x from to way
IsHoused fs h i (Close false x from to way) = rel_home h x ≡ rel.Listed i from (is_forward way)
IsHoused fs h i (Close true x from to way) = rel_home h x ≡ rel.Single from (is_forward way)
IsHoused fs h i (Single x from to way) = rel_home h x ≡ rel.Single from (is_forward way)
IsHoused fs h i (Join side keys) = HasMatch fs h i side keys
IsHoused fs h i s = Unit {0}

-- single relationships are followed from the rows of a node variable
pub record CanFill (c : Run) (f : Leading) : Type 0 where
  pub rel : f.rel < length c.typed.rels
  pub from : f.from < length c.typed.nodes
  pub table : rel_table c.typed f.rel < length c.graph.catalog.rels
  pub rows : near_rows c.graph (rel_table c.typed f.rel) f.direction ≡ row_count c.graph.nodes (node_table c.typed f.from)
  pub single : is_listed c.graph (rel_table c.typed f.rel) f.direction ≡ false

-- a column of one of so many groups, whose source is known and lives in no later column
pub record IsLeading (c : Run) (groups : ℕ) (k : Known) (h : Homes) (column : ℕ) (f : Leading) : Type 0 where
  pub group : f.group < groups
  pub fill : CanFill c f
  pub source : k.nodes f.from ≡ true
  pub before : (j m : ℕ) → node_home h f.from ≡ node.Column j m → m < column

-- a column of a group that a join makes, with a node variable that the side plan binds
pub record IsKeeping (c : Run) (ss : List GroupSteps) (f : Keeping) : Type 0 where
  pub group : f.group < length ss
  pub depth : f.depth ≡ (group_at ss f.group).first
  pub low : f.depth < length c.steps
  pub side : Plan
  pub keys : List ℕ
  pub step : step_at c f.depth ≡ Join side keys
  pub bound : (after side none).nodes f.node ≡ true

abbrev pub IsFilling : Run → List GroupSteps → Known → Homes → ℕ → Filling → Type 0
IsFilling c ss k h column (Led f) = IsLeading c (length ss) k h column f
IsFilling c ss k h column (Kept f) = IsKeeping c ss f

-- a step stands in a group
pub record InGroup (ss : List GroupSteps) (i d : ℕ) : Type 0 where
  pub low : (group_at ss i).first ≤ d
  pub high : d < (group_at ss i).end

-- what the steps before one bind has its home, where these are the steps of the groups before one; nothing else has one
pub record AreHomes (c : Run) (ss : List GroupSteps) (i d : ℕ) (fs : List Filling) (h : Homes) : Type 0 where
  pub node_count : length h.nodes ≡ length c.typed.nodes
  pub rel_count : length h.rels ≡ length c.typed.rels
  pub done : (j e : ℕ) → j < i → InGroup ss j e → (e < d) × IsHoused fs h j (step_at c e)
  pub free_nodes : (v : ℕ) → (known c d).nodes v ≡ false → node_home h v ≡ node.Nowhere
  pub free_rels : (x : ℕ) → (known c d).rels x ≡ false → rel_home h x ≡ rel.Nowhere
  pub columns : (v j m : ℕ) → node_home h v ≡ node.Column j m → IsColumnOf fs j m
  pub few : length fs ≤ sum_by (own_columns c.typed) (take d c.steps)
  pub fillings : (m : ℕ) → m < length fs → IsFilling c ss (known c d) h m (filling_at fs m)
