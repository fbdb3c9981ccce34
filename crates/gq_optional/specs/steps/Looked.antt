-- Matches that agree with a row, found by the rows of their nodes at the shared variables.
use Rattle.std.specs.Prelude.{ℕ, suc, ◌+◌, nat_eq, Bool, true, false, not, ◌&&◌, ◌||◌, Option, Some, None, List, [], ◌∷◌, if◌then◌else◌}
use Rattle.gq_base.specs.declared.NodeId.{NodeId}
use Rattle.gq_plan.specs.Allowed.{at_same}

-- nodes agree with a row where it has these very nodes at the variables that are shared
abbrev pub agrees_by : List Bool → List ℕ → (ℕ → Option NodeId) → List NodeId → Bool
agrees_by [] vs row ns = true
agrees_by (b ∷ bs) [] row ns = true
agrees_by (b ∷ bs) (v ∷ vs) row [] = true
agrees_by (b ∷ bs) (v ∷ vs) row (n ∷ ns) = (not b || at_same (row v) (Some n)) && agrees_by bs vs row ns

-- the row of a node, where it is one of the table
abbrev pub in_table : ℕ → Option NodeId → Option ℕ
in_table table None = None
in_table table (Some n) = if nat_eq n.table table then Some n.row else None

abbrev pub with_row : Option ℕ → Option (List ℕ) → Option (List ℕ)
with_row None rows = None
with_row (Some r) None = None
with_row (Some r) (Some rows) = Some (r ∷ rows)

-- the rows of what a row has at the shared variables; none where it has no node of the table at one of them
abbrev pub asked_rows : List Bool → List ℕ → List ℕ → (ℕ → Option NodeId) → Option (List ℕ)
asked_rows [] vs ts row = Some []
asked_rows (b ∷ bs) [] ts row = Some []
asked_rows (b ∷ bs) (v ∷ vs) [] row = Some []
asked_rows (b ∷ bs) (v ∷ vs) (t ∷ ts) row = if b then with_row (in_table t (row v)) (asked_rows bs vs ts row) else asked_rows bs vs ts row

-- how many variables are shared, and their places, counted from a place on
abbrev pub count_shared : List Bool → ℕ
count_shared [] = 0
count_shared (b ∷ bs) = if b then suc (count_shared bs) else count_shared bs

abbrev pub places_of : ℕ → List Bool → List ℕ
places_of at [] = []
places_of at (b ∷ bs) = if b then at ∷ places_of (at + 1) bs else places_of (at + 1) bs

-- what stands at the shared variables
abbrev pub picked : List Bool → List ℕ → List ℕ
picked [] rs = []
picked (b ∷ bs) [] = []
picked (b ∷ bs) (r ∷ rs) = if b then r ∷ picked bs rs else picked bs rs

-- these very rows stand there
abbrev pub same_rows : List ℕ → List ℕ → Bool
same_rows [] ks = true
same_rows (r ∷ rs) [] = false
same_rows (r ∷ rs) (k ∷ ks) = nat_eq r k && same_rows rs ks

abbrev pub has_rows : Option (List ℕ) → List ℕ → Bool
has_rows None rs = false
has_rows (Some ks) rs = same_rows rs ks
