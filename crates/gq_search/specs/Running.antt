-- What the cursors and marks of a walker mean, and what an advance does.
use Rattle.std.specs.Prelude.{◌≡◌, ◌≢◌, ℕ, ◌+◌, ◌*◌, ◌/◌, ◌%◌, ◌^◌, ◌<◌, ◌≤◌, List, [], ◌∷◌, ◌++◌, map, filter, length, Bool, true, false, slice_index_or, slice_set, take, IsPermutation, MatchBool}
use Rattle.std.specs.List.{flat_map, AllByRecursion, list_any}
use Rattle.gq_bits.specs.declared.TheConstants.{VECTOR}
use Rattle.gq_search.specs.declared.walker.Cursor.{Cursor}
use Rattle.gq_search.specs.declared.walker.State.{State}
use Rattle.gq_search.specs.declared.walker.State.TheVariants.{Fresh, Standing, Done}
use Rattle.gq_search.specs.Layouts.{Layout, places_of, count, live, key_of, piece_of, Spot, Before, At, Over, owed_walks, owed_keys}
use Rattle.gq_search.specs.Marked.{IsMarkedAt, kept_in}

abbrev pub no_cursor : Cursor
no_cursor = record { size = 0; key = 0 }

abbrev pub cursor_at : List Cursor → ℕ → Cursor
cursor_at cs i = slice_index_or cs i no_cursor

abbrev pub keys_of : List Cursor → List ℕ
keys_of cs = map (λ (c : Cursor). c.key) cs

-- the numbers of the groups before a depth
abbrev pub prefix : List Cursor → ℕ → List ℕ
prefix cs depth = keys_of (take depth cs)

-- a group stands at a number of its list that has a kept place
pub record IsGroup (l : Layout) (pre : List ℕ) (c : Cursor) (m : List Bool) : Type 0 where
  pub size_is : c.size ≡ l.size pre
  pub few : c.size < 2 ^ 32
  pub key_in : c.key < count l pre
  pub alive : live l pre c.key ≡ true
  pub marked : IsMarkedAt l pre (piece_of (l.flat pre) c.key) m

-- the groups after the numbers `pre` stand
abbrev pub Runs : Layout → List ℕ → List Cursor → List (List Bool) → Type 0
Runs l pre [] [] = Unit {0}
Runs l pre [] (m ∷ ms) = ⊥
Runs l pre (c ∷ cs) [] = ⊥
Runs l pre (c ∷ cs) (m ∷ ms) = IsGroup l pre c m × Runs l (pre ++ c.key ∷ []) cs ms

-- the groups before `depth` stand, and that group is opened, `next` being the number to look at
pub record IsOpened (l : Layout) (n : ℕ) (cs : List Cursor) (ms : List (List Bool)) (depth next : ℕ) : Type 0 where
  pub groups : length cs ≡ n
  pub marks : length ms ≡ n
  pub inside : depth < n
  pub runs : Runs l [] (take depth cs) (take depth ms)
  pub size_is : (cursor_at cs depth).size ≡ l.size (prefix cs depth)
  pub few : (cursor_at cs depth).size < 2 ^ 32
  pub cached : l.flat (prefix cs depth) ≡ true → next % VECTOR ≢ 0 → IsMarkedAt l (prefix cs depth) (next / VECTOR) (slice_index_or ms depth [])

abbrev pub has_mark : List Bool → Bool
has_mark m = list_any (λ b. b) m

-- ---- the chunk that stands, and what is owed

-- the selected places of a group: marked, and in a flat group current
abbrev pub selected : Bool → Cursor → List Bool → List ℕ
selected f c m = filter (λ j. slice_index_or m (j % VECTOR) false) (places_of f c.size c.key)

-- one walk for each choice of a selected place in each group
abbrev pub choices : Layout → List ℕ → List Cursor → List (List Bool) → List (List ℕ)
choices l pre [] ms = [] ∷ []
choices l pre (c ∷ cs) [] = []
choices l pre (c ∷ cs) (m ∷ ms) = flat_map (λ j. map (λ w. j ∷ w) (choices l (pre ++ c.key ∷ []) cs ms)) (selected (l.flat pre) c m)

abbrev pub spot_of : State → List Cursor → Spot
spot_of Fresh cs = Before
spot_of Standing cs = At (keys_of cs)
spot_of Done cs = Over

-- what stands where a walker is: nothing, or all groups at their numbers
abbrev pub stands_by : State → List Cursor → (List ℕ → Type 0) → Type 0
stands_by Fresh cs stands = stands []
stands_by Standing cs stands = stands (keys_of cs)
stands_by Done cs stands = Unit

-- the search is at a number of the group at `depth`, and its levels have what they read there
pub record IsReady (l : Layout) (n : ℕ) (open_at : List ℕ → Type 0) (cut_at : List ℕ → ℕ → Type 0) (cs : List Cursor) (ms : List (List Bool)) (depth next : ℕ) : Type 0 where
  pub search : IsOpened l n cs ms depth next
  pub opens : open_at (prefix cs depth)
  pub cuts : l.flat (prefix cs depth) ≡ true → next % VECTOR ≢ 0 → cut_at (prefix cs depth) (next / VECTOR)

-- the marks of the group at `depth` are those of number `next`, and no others changed
pub record WithMarks (l : Layout) (cs : List Cursor) (ms : List (List Bool)) (depth next : ℕ) (new : List (List Bool)) : Type 0 where
  pub len : length new ≡ length ms
  pub before : take depth new ≡ take depth ms
  pub marked : IsMarkedAt l (prefix cs depth) (piece_of (l.flat (prefix cs depth)) next) (slice_index_or new depth [])

-- the levels have what they read at number `next` of the group at `depth`
pub record IsAt (l : Layout) (open_at : List ℕ → Type 0) (cut_at : List ℕ → ℕ → Type 0) (pre : List ℕ) (next : ℕ) : Type 0 where
  pub opens : open_at pre
  pub cuts : cut_at pre (piece_of (l.flat pre) next)

-- the search may go on from a number of the next group to a later one: it is flat, and no place between is marked in the piece
pub record Passes (l : Layout) (pre : List ℕ) (m : List Bool) (next to : ℕ) : Type 0 where
  pub later : next < to
  pub within : to ≤ count l pre
  pub flat : next + 1 < to → l.flat pre ≡ true
  pub piece : (k : ℕ) → next < k → k < to → k / VECTOR ≡ next / VECTOR
  pub blank : (k : ℕ) → next < k → k < to → slice_index_or m (k % VECTOR) false ≡ false

-- no place from the piece `from` on up to the piece `to` is kept
abbrev pub IsBlank : Layout → List ℕ → ℕ → ℕ → Type 0
IsBlank l pre from to = (j : ℕ) → VECTOR * from ≤ j → j < VECTOR * to → kept_in l pre j ≡ false

-- the search may go on from a number of the next group that was not looked at to a later one: no number between has a kept place
pub record Jumps (l : Layout) (pre : List ℕ) (next to : ℕ) : Type 0 where
  pub later : next ≤ to
  pub inside : next < to → next < count l pre
  pub dead : (k : ℕ) → next ≤ k → k < to → k < count l pre → live l pre k ≡ false
  pub starts : next < to → l.flat pre ≡ true → to % VECTOR ≡ 0

-- a cursor on a list that was opened
pub record Opens (l : Layout) (pre : List ℕ) (old : List Cursor) (depth : ℕ) (new : List Cursor) : Type 0 where
  pub cursor : Cursor
  pub size : cursor.size ≡ l.size pre
  pub few : cursor.size < 2 ^ 32
  pub cursors : new ≡ slice_set old depth cursor

-- the cursor at `depth` with another number
abbrev pub stands_at : List Cursor → ℕ → ℕ → Cursor
stands_at cs depth next = record { size = (cursor_at cs depth).size; key = next }

-- a walker without what its levels read
pub record Machine : Type 0 where
  pub cursors : List Cursor
  pub marks : List (List Bool)
  pub state : State

abbrev pub spot : Machine → Spot
spot m = spot_of m.state m.cursors

abbrev pub chunk_of : Layout → Machine → List (List ℕ)
chunk_of l m = choices l [] m.cursors m.marks

abbrev pub owed_of : Layout → ℕ → Machine → List (List ℕ)
owed_of l n m = owed_walks l n (spot m)

-- the different keys of what is owed, in order
abbrev pub keys_owed : Layout → ℕ → Machine → List (List ℕ)
keys_owed l n m = owed_keys l n (spot m)

pub record IsSound (l : Layout) (n : ℕ) (m : Machine) : Type 0 where
  pub groups : length m.cursors ≡ n
  pub marks : length m.marks ≡ n
  pub standing : m.state ≡ Standing → Runs l [] m.cursors m.marks

-- a chunk stands that was taken from what was owed: it is not empty and has one key, and what is owed now has later keys
pub record Taken (l : Layout) (n : ℕ) (old new : Machine) : Type 0 where
  pub state : new.state ≡ Standing
  pub bag : IsPermutation (owed_of l n old) (chunk_of l new ++ owed_of l n new)
  pub some : chunk_of l new ≢ []
  pub one_key : AllByRecursion (λ w. key_of l [] w ≡ keys_of new.cursors) (chunk_of l new)
  pub next_key : keys_owed l n old ≡ keys_of new.cursors ∷ keys_owed l n new

-- nothing was owed, and nothing is
pub record Ended (l : Layout) (n : ℕ) (old new : Machine) : Type 0 where
  pub state : new.state ≡ Done
  pub none : owed_of l n old ≡ []
  pub no_keys : keys_owed l n old ≡ []

pub record Moves (l : Layout) (n : ℕ) (old : Machine) (told : Bool) (new : Machine) : Type 0 where
  pub sound : IsSound l n new
  pub answer : MatchBool told (Taken l n old new) (Ended l n old new)
