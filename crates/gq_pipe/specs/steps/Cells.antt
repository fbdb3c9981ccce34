-- The cells of the columns of the chunk that stands: each has a row for each marked position of its group.
use Rattle.std.specs.Prelude.{◌≡◌, ◌≢◌, ◌<◌, ℕ, zero, suc, nat_eq, nat_lt, if◌then◌else◌, Bool, Option, Some, None, List, [], ◌∷◌, ◌++◌, map, length, slice_get, slice_index}
use Rattle.std.specs.List.{range_with_len}
use Rattle.std.specs.Option.{unwrap_or}
use Rattle.gq_bits.specs.declared.TheConstants.{VECTOR}
use Rattle.gq_base.specs.Valid.{row_count}
use Rattle.gq_bits.specs.Places.{is_marked}
use Rattle.gq_group.specs.Chunks.{IsRow, items_in, row_in}
use Rattle.gq_group.specs.declared.group.Group.{Group}
use Rattle.gq_group.specs.declared.home.Homes.{Homes}
use Rattle.gq_group.specs.declared.home.NodeHome.{NodeHome}
use Rattle.gq_group.specs.declared.home.NodeHome.TheVariants as node
use Rattle.gq_join.specs.Kept.{Held, node_in, place_of}
use Rattle.gq_plan.specs.Rows.{node_table, rel_table}
use Rattle.gq_plan.specs.declared.assignment.Assignment.{Assignment}
use Rattle.gq_pool.specs.Pool as pool
use Rattle.gq_pool.specs.Pool.{Pool, IsOut}
use Rattle.gq_store.specs.Neighbours.{neighbours}
use Rattle.gq_pipe.specs.Serving.{row_of}
use Rattle.gq_homes.specs.Homes.{column_group, filling_at, node_home}
use Rattle.gq_homes.specs.steps.Housing.{build_in}
use Rattle.gq_steps.specs.Levels.{Run}
use Rattle.gq_homes.specs.declared.homes.Filling.{Filling}
use Rattle.gq_homes.specs.declared.homes.Filling.TheVariants.{Led, Kept}
use Rattle.gq_homes.specs.declared.homes.Leading.{Leading}

-- the row to which the single relationship of a row leads
abbrev pub led : Run → Leading → ℕ → ℕ
led c f near =
    if nat_lt near (row_count c.graph.nodes (node_table c.typed f.from))
    then slice_index (neighbours c.graph (rel_table c.typed f.rel) f.direction near) 0 else 0

-- the row that a node variable has at a position of a group: an item, a cell of an earlier column, or the one that stands
abbrev pub near_in : Assignment → List Group → List (List (Option ℕ)) → ℕ → ℕ → ℕ → NodeHome → ℕ
near_in row gs done i v p node.Nowhere = slice_index row.nodes v
near_in row gs done i v p (node.Item j) = if nat_eq j i then slice_index (items_in (slice_get gs j)) p else slice_index row.nodes v
near_in row gs done i v p (node.Column j m) = if nat_eq j i then unwrap_or (row_of done m p) 0 else slice_index row.nodes v

-- the row of a node variable in a row of a build, if there are both
abbrev pub kept_row : Option Held → Option ℕ → ℕ → ℕ
kept_row (Some b) (Some r) v = node_in b v r
kept_row o i v = 0

abbrev pub item_in : List Group → ℕ → ℕ → Option ℕ
item_in gs i p = slice_get (items_in (slice_get gs i)) p

-- the marks of a group
abbrev pub marks_in : Option Group → List Bool
marks_in None = []
marks_in (Some g) = g.marks

-- a column has rows where its group is marked
abbrev pub has_cell : List Group → Filling → ℕ → Bool
has_cell gs f p = is_marked (marks_in (slice_get gs (column_group f))) p

module _ (c : Run) (row : Assignment) (gs : List Group) (h : Homes) where
  abbrev pub cell_of : List (List (Option ℕ)) → Filling → ℕ → ℕ
  cell_of done (Led f) p = led c f (near_in row gs done f.group f.from p (node_home h f.from))
  cell_of done (Kept f) p = kept_row (build_in c f.depth) (item_in gs f.group p) f.node

  abbrev pub column_of : List (List (Option ℕ)) → Filling → List (Option ℕ)
  column_of done f = map (λ p. if has_cell gs f p then Some (cell_of done f p) else None) (range_with_len 0 VECTOR)

  -- the first columns
  unfoldable pub filled : List Filling → ℕ → List (List (Option ℕ))
  filled fs zero = []
  filled fs (suc n) = filled fs n ++ column_of (filled fs n) (filling_at fs n) ∷ []

-- the same as it is read from the pool
abbrev pub near_seen : Assignment → List Group → Pool → List ℕ → ℕ → ℕ → ℕ → NodeHome → ℕ
near_seen row gs q slots i v p node.Nowhere = slice_index row.nodes v
near_seen row gs q slots i v p (node.Item j) = if nat_eq j i then slice_index (items_in (slice_get gs j)) p else slice_index row.nodes v
near_seen row gs q slots i v p (node.Column j m) = if nat_eq j i then row_in (pool.cell_at q (slice_index slots m) p) else slice_index row.nodes v

abbrev pub cell_seen : Run → Assignment → List Group → Homes → Pool → List ℕ → Filling → ℕ → ℕ
cell_seen c row gs h q slots (Led f) p = led c f (near_seen row gs q slots f.group f.from p (node_home h f.from))
cell_seen c row gs h q slots (Kept f) p = kept_row (build_in c f.depth) (item_in gs f.group p) f.node

-- a cell of a column that can be read while another column is written
pub record HasRow (q : Pool) (slots : List ℕ) (written m p : ℕ) : Type 0 where
  pub other : slice_index slots m ≢ written
  pub out : IsOut q (slice_index slots m)
  pub row : IsRow (pool.cell_at q (slice_index slots m) p)

-- so can the column that the source of a column lives in, if it does so in the column's group
abbrev pub HasSource : Homes → Pool → List ℕ → ℕ → Filling → ℕ → Type 0
HasSource h q slots written (Led f) p = (m : ℕ) → node_home h f.from ≡ node.Column f.group m → HasRow q slots written m p
HasSource h q slots written (Kept f) p = Unit {0}

-- a build keeps a node variable, and has a row
abbrev pub CanKeep : Option Held → Option ℕ → ℕ → Type 0
CanKeep None i v = Unit {0}
CanKeep (Some b) None v = Unit {0}
CanKeep (Some b) (Some r) v = (r < length b.rows) × (place_of b.nodes v < length b.nodes)

-- so at each position of the group of a column
abbrev pub HasMatches : Run → List Group → Filling → Type 0
HasMatches c gs (Led f) = Unit {0}
HasMatches c gs (Kept f) = (p : ℕ) → CanKeep (build_in c f.depth) (item_in gs f.group p) f.node
