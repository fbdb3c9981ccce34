-- The cells of columns: those that are written, and those that stay.
use Rattle.std.proofs.Common.{◌≡◌, ◌≢◌, ◌⊎◌, inl, inr, ℕ, zero, suc, ◌+◌, ◌<◌, ◌≤◌, Bool, true, false, nat_eq, pos, None, Some, List, [], ◌∷◌, ◌++◌, length, refl, sym, ap, ◌∙◌, subst, arith}
use Rattle.std.specs.Prelude.{slice_get, slice_index, slice_index_or, if◌then◌else◌, Option}
use Rattle.std.specs.List.{AllByRecursion}
use Rattle.std.specs.Option.{unwrap_or}
use Rattle.std.proofs.lemmas.Option.{unwrap_or-slice_get}
use Rattle.std.proofs.lemmas.Bool.{cases_lt, eq-eqb, eqb-true, lt-ltb}
use Rattle.std.proofs.lemmas.List.{get_or_append_left, get_or_past, get_or_push, length_push}
use Rattle.std.proofs.lemmas.List.FromFn.{get_or-map-range_with_len, length-map-range_with_len}
use Rattle.gq_bits.specs.declared.TheConstants.{VECTOR}
use Rattle.gq_group.specs.Chunks.{items_in, row_in}
use Rattle.gq_group.specs.Pieces.{items_of}
use Rattle.gq_group.specs.declared.chunk.Chunk.{Chunk}
use Rattle.gq_group.specs.declared.group.Group.{Group}
use Rattle.gq_group.specs.declared.home.Homes.{Homes}
use Rattle.gq_group.specs.declared.home.NodeHome.{NodeHome}
use Rattle.gq_group.specs.declared.home.NodeHome.TheVariants as node
use Rattle.gq_plan.specs.Rows.{node_table, rel_table}
use Rattle.gq_store.specs.Neighbours.{neighbours}
use Rattle.gq_base.specs.Valid.{row_count}
use Rattle.gq_bits.specs.Places.{is_marked}
use Rattle.gq_plan.specs.declared.assignment.Assignment.{Assignment}
use Rattle.gq_pool.specs.Pool as pool
use Rattle.gq_pool.specs.Pool.{Pool, IsOut, cells_of}
use Rattle.gq_pipe.specs.Serving.{HasCell, HasCells, Serves, row_of}
use Rattle.gq_pool.specs.Slots.{AreApart, Holds}
use Rattle.gq_pipe.specs.steps.Cells.{HasSource, cell_of, cell_seen, column_of, filled, has_cell, led, marks_in, near_in, near_seen}
use Rattle.gq_homes.specs.Homes.{IsColumnOf, IsFilling, filling_at, node_home}
use Rattle.gq_steps.specs.Levels.{Run}
use Rattle.gq_pipe.specs.steps.Search.{cells_in, cells_when, has_chunk, rest_of}
use Rattle.gq_homes.specs.declared.homes.Filling.{Filling}
use Rattle.gq_homes.specs.declared.homes.Filling.TheVariants.{Led, Kept}
use Rattle.gq_homes.specs.declared.homes.Leading.{Leading}
use Rattle.gq_steps.specs.declared.group_steps.GroupSteps.{GroupSteps}
use Rattle.gq_plan.specs.Known.{Known}
use Rattle.gq_pipe.specs.declared.pipeline.Pipeline.TheInside.{Inside}
use Rattle.gq_search.specs.declared.walker.State.{State}
use Rattle.gq_search.specs.declared.walker.State.TheVariants.{Fresh, Standing, Done}

-- ---- slots

all_at : (P : ℕ → Type 0) (xs : List ℕ) (i : ℕ) → AllByRecursion P xs → i < length xs → P (slice_index xs i)
all_at P [] i all low = absurd (omega (arith, low))
all_at P (x ∷ xs) zero all low = all.0
all_at P (x ∷ xs) (suc i) all low = all_at P xs i all.1 (omega (arith, low))

pub out_at : (p : Pool) (slots : List ℕ) (i : ℕ) → Holds p slots → i < length slots → IsOut p (slice_index slots i)
out_at p slots i h low = all_at (IsOut p) slots i h.out low

apart_at : (slots : List ℕ) (m n : ℕ) → AreApart slots → m < n → n < length slots → slice_index slots m ≢ slice_index slots n
apart_at [] m n apart less low = absurd (omega (arith, low))
apart_at (s ∷ ss) zero zero apart less low = absurd (omega (arith, less))
apart_at (s ∷ ss) zero (suc n) apart less low = all_at (λ t. s ≢ t) ss n apart.0 (omega (arith, low))
apart_at (s ∷ ss) (suc m) zero apart less low = absurd (omega (arith, less))
apart_at (s ∷ ss) (suc m) (suc n) apart less low = apart_at ss m n apart.1 (omega (arith, less)) (omega (arith, low))

each_still : (P Q : ℕ → Type 0) (xs : List ℕ) → ((x : ℕ) → P x → Q x) → AllByRecursion P xs → AllByRecursion Q xs
each_still P Q [] f all = tt
each_still P Q (x ∷ xs) f all = (f x all.0, each_still P Q xs f all.1)

pub holds_still : (old new : Pool) (slots : List ℕ) → ((s : ℕ) → IsOut old s → IsOut new s) → Holds old slots → Holds new slots
holds_still old new slots f h = record { out = each_still (IsOut old) (IsOut new) slots f h.out; apart = h.apart }

-- a column that has a row in a cell is one of those that there are
pub column_low : (cells : List (List (Option ℕ))) (m k r : ℕ) → row_of cells m k ≡ Some r → m < length cells
column_low [] m k r at = absurd (cc at)
column_low (l ∷ cells) zero k r at = omega arith
column_low (l ∷ cells) (suc m) k r at = let low = column_low cells m k r at in omega (arith, low)

-- a write into a later slot leaves the cells of the first ones
pub cells_still : (old new : Pool) (slots : List ℕ) (cells : List (List (Option ℕ))) (n slot : ℕ) → slot ≡ slice_index slots n → n < length slots → length cells ≤ n → Holds old slots
    → ((s : ℕ) → s ≢ slot → cells_of new s ≡ cells_of old s) → HasCells old slots cells → HasCells new slots cells
cells_still old new slots cells n slot is low few h others has m k r at =
    let inside = column_low cells m k r at in
    let here : HasCell old (slice_index slots m) k r = has m k r at in
    let apart : slice_index slots m ≢ slot = λ e. apart_at slots m n h.apart (omega (arith, inside, few)) low (e ∙ is) in
    record { is = ap (λ l. slice_index_or l k (pos 0)) (others (slice_index slots m) apart) ∙ here.is; few = here.few }

-- ---- columns

pub seen_item : (row : Assignment) (gs : List Group) (q : Pool) (slots : List ℕ) (i v p j : ℕ) (x : Group) (o : NodeHome) → o ≡ node.Item j → j ≡ i → slice_get gs j ≡ Some x
    → near_seen row gs q slots i v p o ≡ slice_index (items_of x.piece) p
seen_item row gs q slots i v p j x o is same there =
    ap (near_seen row gs q slots i v p) is
    ∙ ap (λ b. if b then slice_index (items_in (slice_get gs j)) p else slice_index row.nodes v) (eq-eqb j i same)
    ∙ ap (λ g. slice_index (items_in g) p) there

-- what is found at a place, or what stands for none
pub found_or : {X : Type 0} (xs : List X) (i : ℕ) (d : X) (o : Option X) → o ≡ slice_get xs i → unwrap_or o d ≡ slice_index_or xs i d
found_or xs i d o e = ap (λ o. unwrap_or o d) e ∙ unwrap_or-slice_get xs i d

pub led_within : (c : Run) (f : Leading) (near : ℕ) → near < row_count c.graph.nodes (node_table c.typed f.from) → led c f near ≡ slice_index (neighbours c.graph (rel_table c.typed f.rel) f.direction near) 0
led_within c f near low =
    ap (λ b. if b then slice_index (neighbours c.graph (rel_table c.typed f.rel) f.direction near) 0 else 0) (lt-ltb near (row_count c.graph.nodes (node_table c.typed f.from)) low)

pub led_found : (c : Run) (f : Leading) (near table : ℕ) (o : Option ℕ) → near < row_count c.graph.nodes (node_table c.typed f.from) → table ≡ rel_table c.typed f.rel → o ≡ slice_get (neighbours c.graph table f.direction near) 0 → unwrap_or o 0 ≡ led c f near
led_found c f near table o low same is =
    found_or (neighbours c.graph table f.direction near) 0 0 o is
    ∙ ap (λ t. slice_index (neighbours c.graph t f.direction near) 0) same
    ∙ sym (led_within c f near low)

module _ (c : Run) (row : Assignment) (gs : List Group) (h : Homes) (fs : List Filling) where
  pub length-filled : (n : ℕ) → length (filled c row gs h fs n) ≡ n
  unfolding filled
  length-filled zero = refl
  length-filled (suc n) = let one = length_push (filled c row gs h fs n) (column_of c row gs h (filled c row gs h fs n) (filling_at fs n)) in let rest = length-filled n in omega (arith, one, rest)

  pub filled_at : (n m : ℕ) → m < n → slice_index_or (filled c row gs h fs n) m [] ≡ column_of c row gs h (filled c row gs h fs m) (filling_at fs m)
  unfolding filled
  filled_at zero m low = absurd (omega (arith, low))
  filled_at (suc n) m low = go (cases_lt m n) (λ less. filled_at n m less)
    where
      go : (m < n) ⊎ (n ≤ m) → (m < n → slice_index_or (filled c row gs h fs n) m [] ≡ column_of c row gs h (filled c row gs h fs m) (filling_at fs m))
          → slice_index_or (filled c row gs h fs n ++ column_of c row gs h (filled c row gs h fs n) (filling_at fs n) ∷ []) m [] ≡ column_of c row gs h (filled c row gs h fs m) (filling_at fs m)
      go (inl less) rest = get_or_append_left (filled c row gs h fs n) (column_of c row gs h (filled c row gs h fs n) (filling_at fs n) ∷ []) [] m (let many = length-filled n in omega (arith, less, many)) ∙ rest less
      go (inr more) rest =
          let same : n ≡ m = omega (arith, more, low) in
          get_or_push (filled c row gs h fs n) (column_of c row gs h (filled c row gs h fs n) (filling_at fs n)) [] m (length-filled n ∙ same)
          ∙ ap (λ n. column_of c row gs h (filled c row gs h fs n) (filling_at fs n)) same

  -- what a column has in a cell
  abbrev cell_in : ℕ → ℕ → Option ℕ
  cell_in m k = if has_cell gs (filling_at fs m) k then Some (cell_of c row gs h (filled c row gs h fs m) (filling_at fs m) k) else None

  pub cell_is : (n m k : ℕ) → m < n → k < VECTOR → row_of (filled c row gs h fs n) m k ≡ cell_in m k
  cell_is n m k low small =
      ap (λ l. slice_index_or l k None) (filled_at n m low)
      ∙ get_or-map-range_with_len (cell_in m) 0 VECTOR k k None small (Rattle.std.proofs.Common.zero-add k)

  pub cell_marked : (n m k : ℕ) → m < n → k < VECTOR → has_cell gs (filling_at fs m) k ≡ true → row_of (filled c row gs h fs n) m k ≡ Some (cell_of c row gs h (filled c row gs h fs m) (filling_at fs m) k)
  cell_marked n m k low small on =
      cell_is n m k low small ∙ ap (λ b. if b then Some (cell_of c row gs h (filled c row gs h fs m) (filling_at fs m) k) else None) on

  -- it is the same in more columns
  cell_stays : (n m k : ℕ) → m < n → row_of (filled c row gs h fs (n + 1)) m k ≡ row_of (filled c row gs h fs n) m k
  cell_stays n m k low = ap (λ l. slice_index_or l k None) (filled_at (n + 1) m (omega (arith, low)) ∙ sym (filled_at n m low))

  -- a column has rows where its group is marked alone
  record IsCell (m k r : ℕ) : Type 0 where
    small : k < VECTOR
    marked : has_cell gs (filling_at fs m) k ≡ true
    is : cell_of c row gs h (filled c row gs h fs m) (filling_at fs m) k ≡ r

  cell_some : (n m k r : ℕ) → m < n → row_of (filled c row gs h fs n) m k ≡ Some r → IsCell m k r
  cell_some n m k r low at = go (cases_lt k VECTOR)
    where
      by : (b : Bool) → has_cell gs (filling_at fs m) k ≡ b → (if b then Some (cell_of c row gs h (filled c row gs h fs m) (filling_at fs m) k) else None) ≡ Some r → k < VECTOR → IsCell m k r
      by true on e small = record { small = small; marked = on; is = cc e }
      by false on e small = absurd (cc e)

      go : (k < VECTOR) ⊎ (VECTOR ≤ k) → IsCell m k r
      go (inl small) = by (has_cell gs (filling_at fs m) k) refl (sym (cell_is n m k low small) ∙ at) small
      go (inr past) =
          let long = length-map-range_with_len (cell_in m) 0 VECTOR in
          let none : None ≡ Some r = sym (ap (λ l. slice_index_or l k None) (filled_at n m low) ∙ get_or_past (column_of c row gs h (filled c row gs h fs m) (filling_at fs m)) k None (omega (arith, past, long))) ∙ at in
          absurd (cc none)

  -- a column that a variable lives in has a row where its group is marked
  marked_there : (v j m p : ℕ) → ((v j m : ℕ) → node_home h v ≡ node.Column j m → IsColumnOf fs j m) → node_home h v ≡ node.Column j m → is_marked (marks_in (slice_get gs j)) p ≡ true → has_cell gs (filling_at fs m) p ≡ true
  marked_there v j m p columns home on = ap (λ i. is_marked (marks_in (slice_get gs i)) p) (columns v j m home).group ∙ on

  -- what is read of the pool is what the columns have
  seen_is : (q : Pool) (slots : List ℕ) (n i v p : ℕ) → HasCells q slots (filled c row gs h fs n) → p < VECTOR → (o : NodeHome)
      → ((m : ℕ) → o ≡ node.Column i m → (m < n) × (has_cell gs (filling_at fs m) p ≡ true)) → near_seen row gs q slots i v p o ≡ near_in row gs (filled c row gs h fs n) i v p o
  seen_is q slots n i v p has small node.Nowhere low = refl
  seen_is q slots n i v p has small (node.Item j) low = refl
  seen_is q slots n i v p has small (node.Column j m) low = go (nat_eq j i) refl
    where
      go : (b : Bool) → nat_eq j i ≡ b → (if b then row_in (pool.cell_at q (slice_index slots m) p) else slice_index row.nodes v) ≡ (if b then unwrap_or (row_of (filled c row gs h fs n) m p) 0 else slice_index row.nodes v)
      go true same =
          let there = low m (ap (λ j. node.Column j m) (eqb-true j i same)) in
          let is = cell_marked n m p there.0 small there.1 in
          let cell : HasCell q (slice_index slots m) p (cell_of c row gs h (filled c row gs h fs m) (filling_at fs m) p) = has m p _ is in
          ap row_in cell.is ∙ sym (ap (λ o. unwrap_or o 0) is)
      go false same = refl

  -- so are the cells of one more column
  pub seen_cell : (q : Pool) (slots : List ℕ) (n p : ℕ) (ss : List GroupSteps) (k : Known) (f : Filling) → ((v j m : ℕ) → node_home h v ≡ node.Column j m → IsColumnOf fs j m)
      → HasCells q slots (filled c row gs h fs n) → p < VECTOR → has_cell gs f p ≡ true → IsFilling c ss k h n f → cell_seen c row gs h q slots f p ≡ cell_of c row gs h (filled c row gs h fs n) f p
  seen_cell q slots n p ss k (Led f) columns has small on is =
      ap (led c f) (seen_is q slots n f.group f.from p has small (node_home h f.from) (λ m home. (is.before f.group m home, marked_there f.from f.group m p columns home on)))
  seen_cell q slots n p ss k (Kept f) columns has small on is = refl

  -- what a column is filled from can be read where the column's group is marked
  pub source_there : (q : Pool) (slots : List ℕ) (n p : ℕ) (ss : List GroupSteps) (k : Known) (f : Filling) → ((v j m : ℕ) → node_home h v ≡ node.Column j m → IsColumnOf fs j m)
      → Holds q slots → HasCells q slots (filled c row gs h fs n) → n < length slots → p < VECTOR → has_cell gs f p ≡ true → IsFilling c ss k h n f → HasSource h q slots (slice_index slots n) f p
  source_there q slots n p ss k (Led f) columns held has room small on is = λ m home.
      (let low : m < n = is.before f.group m home in
      let cell : HasCell q (slice_index slots m) p (cell_of c row gs h (filled c row gs h fs m) (filling_at fs m) p) = has m p _ (cell_marked n m p low small (marked_there f.from f.group m p columns home on)) in
      record { other = apart_at slots m n held.apart low room; out = out_at q slots m held (omega (arith, low, room)); row = (_, cell.is, cell.few) })
  source_there q slots n p ss k (Kept f) columns held has room small on is = tt

  -- one column more
  pub cells_more : (q : Pool) (slots : List ℕ) (n : ℕ) → HasCells q slots (filled c row gs h fs n)
      → ((k : ℕ) → k < VECTOR → has_cell gs (filling_at fs n) k ≡ true → HasCell q (slice_index slots n) k (cell_of c row gs h (filled c row gs h fs n) (filling_at fs n) k)) → HasCells q slots (filled c row gs h fs (n + 1))
  cells_more q slots n has here m k r at = go (cases_lt m n)
    where
      go : (m < n) ⊎ (n ≤ m) → HasCell q (slice_index slots m) k r
      go (inl less) = has m k r (sym (cell_stays n m k less) ∙ at)
      go (inr more) =
          let low = column_low (filled c row gs h fs (n + 1)) m k r at in
          let many = length-filled (n + 1) in
          let same : n ≡ m = omega (arith, more, low, many) in
          let cell : IsCell m k r = cell_some (n + 1) m k r (omega (arith, low, many)) at in
          subst (HasCell q (slice_index slots m) k) cell.is
          (subst (λ m. has_cell gs (filling_at fs m) k ≡ true → HasCell q (slice_index slots m) k (cell_of c row gs h (filled c row gs h fs m) (filling_at fs m) k)) same (here k cell.small) cell.marked)

  pub cells_none : (q : Pool) (slots : List ℕ) → HasCells q slots (filled c row gs h fs 0)
  unfolding filled
  cells_none q slots m k r at = absurd (cc at)

-- ---- the pool that serves a pipeline

pub serves_now : (p : Inside) (q : Pool) (found : Bool) → has_chunk p.walker.state ≡ found → Holds q p.slots.numbers → (found ≡ true → HasCells q p.slots.numbers (cells_in p)) → Serves (rest_of p) q
serves_now p q found told held cells = record { held = held; cells = go p.walker.state told }
  where
    go : (s : State) → has_chunk s ≡ found → HasCells q p.slots.numbers (cells_when s (cells_in p))
    go Fresh is = λ m k r at. absurd (cc at)
    go Standing is = cells (sym is)
    go Done is = λ m k r at. absurd (cc at)

-- while a chunk stands its columns have their cells
pub served_cells : (p : Inside) (q : Pool) → p.walker.state ≡ Standing → Serves (rest_of p) q → HasCells q p.slots.numbers (cells_in p)
served_cells p q now s = subst (λ s. HasCells q p.slots.numbers (cells_when s (cells_in p))) now s.cells

-- ---- the columns of a chunk

pub record AreCells (c : Run) (row : Assignment) (fs : List Filling) (ch : Chunk) : Type 0 where
  pub room : length fs ≤ length ch.slots.now
  pub held : Holds ch.pool.now ch.slots.now
  pub cells : HasCells ch.pool.now ch.slots.now (filled c row ch.groups.now ch.homes.now fs (length fs))
