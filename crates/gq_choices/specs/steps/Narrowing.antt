-- Narrowing one relationship pattern: its readings by the tables at its ends, and these tables by its readings.
use Rattle.std.specs.Prelude.{ℕ, zero, suc, nat_eq, Bool, false, ◌&&◌, ◌||◌, Option, Some, None, List, [], ◌∷◌, filter, slice_get, slice_index_or, if◌then◌else◌}
use Rattle.std.specs.Option.{option_map}
use Rattle.gq_base.specs.Catalogs.{Tables}
use Rattle.gq_alternatives.specs.Alternatives.{Reading}
use Rattle.gq_choices.specs.steps.Searching.{stands_at}
use Rattle.gq_scopes.specs.Patterns.{RelPattern}

-- a set of numbers, by the marks at their places
abbrev pub has : List Bool → ℕ → Bool
has marks n = slice_index_or marks n false

-- a set with one more number
abbrev pub with_number : ℕ → (ℕ → Bool) → ℕ → Bool
with_number number set n = set n || nat_eq number n

-- the tables that a node variable may have, if there is one
abbrev pub those_of : Option (List ℕ) → ℕ → Bool
those_of tables t = stands_at tables (Some t)

-- there is a table, and it is in a set
abbrev pub is_in : (ℕ → Bool) → Option ℕ → Bool
is_in set None = false
is_in set (Some t) = set t

-- the tables at the ends of a reading are in these sets of the left and of the right node variable
abbrev pub ends_in : Tables → (ℕ → Bool) → (ℕ → Bool) → Reading → Bool
ends_in catalog left right c =
    is_in (if c.reversed then right else left) (option_map (λ k. k.from) (slice_get catalog.rels c.table))
    && is_in (if c.reversed then left else right) (option_map (λ k. k.to) (slice_get catalog.rels c.table))

-- a node variable is at one of the ends of a pattern
abbrev pub touches : RelPattern → ℕ → Bool
touches p v = nat_eq p.left v || nat_eq p.right v

-- the lists of tables, of which that of a variable keeps those of a set
unfoldable pub restricting : (ℕ → Bool) → ℕ → List (List ℕ) → List (List ℕ)
restricting set v [] = []
restricting set zero (ts ∷ tss) = filter set ts ∷ tss
restricting set (suc v) (ts ∷ tss) = ts ∷ restricting set v tss
