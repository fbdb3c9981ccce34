-- Lists of nodes by levels: a level numbers, in the order of its links, the fronts of lists that have one node more than those
-- before it.
use Rattle.std.specs.Prelude.{◌≡◌, ℕ, ◌<◌, nat_eq, nat_lt, Bool, true, false, ◌&&◌, Option, Some, None, List, [], ◌∷◌, ◌++◌, length, map, slice_index_or, if◌then◌else◌}
use Rattle.std.specs.HashSet.{HashSet}
use Rattle.std.specs.List.{AllByRecursion, list_any, position_or_len}
use Rattle.gq_base.specs.declared.NodeId.{NodeId}
use Rattle.gq_plan.specs.Keys.{has_key}
use Rattle.gq_exists.specs.declared.paths.Link.{Link}
use Rattle.gq_exists.specs.declared.paths.Paths.{Paths}

-- ---- links

abbrev pub link : ℕ → NodeId → Link
link front n = record { front = front; table = n.table; row = n.row }

abbrev pub node_of : Link → NodeId
node_of l = record { table = l.table; row = l.row }

abbrev pub same_link : Link → Link → Bool
same_link k l = nat_eq k.front l.front && nat_eq k.table l.table && nat_eq k.row l.row

abbrev pub links_of : {S : Type 0} → List (HashSet Link S) → List (List Link)
links_of levels = map (λ l. l.keys) levels

-- ---- lists

-- the fronts with one node more each
abbrev pub longer : List (List NodeId) → List Link → List (List NodeId)
longer fronts links = map (λ l. slice_index_or fronts l.front [] ++ node_of l ∷ []) links

-- the lists that levels make of fronts
abbrev pub keys_from : List (List NodeId) → List (List Link) → List (List NodeId)
keys_from fronts [] = fronts
keys_from fronts (links ∷ levels) = keys_from (longer fronts links) levels

-- before any list there is no front
abbrev pub roots : Bool → List (List NodeId)
roots true = [] ∷ []
roots false = []

abbrev pub paths_in : Paths → List (List NodeId)
paths_in p = keys_from (roots p.any) (links_of p.levels.items)

-- lists with one more, unless it is among them
abbrev pub with_key : List (List NodeId) → List NodeId → List (List NodeId)
with_key keys key = if has_key key keys then keys else keys ++ key ∷ []

-- ---- what stands

-- the place of a link, or how many they are
abbrev pub place : List Link → Link → ℕ
place links l = position_or_len (same_link l) links

-- each link is found at its own place
abbrev pub IsOnce : List Link → Type 0
IsOnce links = (i : ℕ) (d : Link) → i < length links → place links (slice_index_or links i d) ≡ i

-- each level has the links of fronts of the level before, each once
abbrev pub AreLevels : ℕ → List (List Link) → Type 0
AreLevels fronts [] = Unit {0}
AreLevels fronts (links ∷ levels) = AllByRecursion (λ l. l.front < fronts) links × IsOnce links × AreLevels (length links) levels

abbrev pub ArePaths : Paths → Type 0
ArePaths p = AreLevels (length (roots p.any)) (links_of p.levels.items)

-- ---- what calls tell

-- nodes lead on from a front through all levels
abbrev pub is_path : List (List Link) → ℕ → List NodeId → Bool
is_path [] front [] = true
is_path [] front (n ∷ ns) = false
is_path (links ∷ levels) front [] = false
is_path (links ∷ levels) front (n ∷ ns) =
    nat_lt (place links (link front n)) (length links) && is_path levels (place links (link front n)) ns

-- the same of nodes that may be missing
abbrev pub is_path_at : List (List Link) → ℕ → List (Option NodeId) → Bool
is_path_at [] front [] = true
is_path_at [] front (n ∷ ns) = false
is_path_at (links ∷ levels) front [] = false
is_path_at (links ∷ levels) front (None ∷ ns) = false
is_path_at (links ∷ levels) front (Some n ∷ ns) =
    nat_lt (place links (link front n)) (length links) && is_path_at levels (place links (link front n)) ns

-- the links with one more, unless it is among them
abbrev pub with_link : List Link → Link → List Link
with_link links l = if list_any (same_link l) links then links else links ++ l ∷ []

-- the levels in which they do
abbrev pub grown : List (List Link) → ℕ → List NodeId → List (List Link)
grown [] front ns = []
grown (links ∷ levels) front [] = links ∷ levels
grown (links ∷ levels) front (n ∷ ns) =
    with_link links (link front n) ∷ grown levels (place links (link front n)) ns
