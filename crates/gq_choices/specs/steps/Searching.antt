-- The choices among candidates that agree, and the search of them.
use Rattle.std.specs.Prelude.{ℕ, nat_eq, suc, Bool, true, false, not, ◌&&◌, ◌||◌, Option, Some, None, List, [], ◌∷◌, ◌++◌, map, flat_map, filter, length, take, drop, slice_get, slice_set, if◌then◌else◌}
use Rattle.std.specs.List.{list_any}
use Rattle.std.specs.Option.{option_map}
use Rattle.gq_base.specs.Catalogs.{Tables}
use Rattle.gq_base.specs.declared.RelTable.{RelTable}
use Rattle.gq_alternatives.specs.Alternatives.{Reading, Choice, source_of, target_of, same_table}
use Rattle.gq_scopes.specs.Patterns.{RelPattern}
use Rattle.gq_alternatives.specs.Candidates.{Step}

-- the lists that have one item of each list, in lexicographic order
unfoldable pub one_of_each : {X : Type 0} → List (List X) → List (List X)
one_of_each [] = [] ∷ []
one_of_each (xs ∷ xss) = flat_map (λ x. map (λ l. x ∷ l) (one_of_each xss)) xs

abbrev pub is_nil : {X : Type 0} → List X → Bool
is_nil [] = true
is_nil (x ∷ xs) = false

abbrev pub no_reading : Step → Bool
no_reading s = is_nil s.readings

-- ---- the choices among candidates that agree

-- the tables at the ends of a reading are those of its node variables
abbrev pub ends_agree : Tables → List ℕ → RelPattern → Reading → Bool
ends_agree catalog tables p c =
    same_table (slice_get tables (source_of p c)) (option_map (λ k. k.from) (slice_get catalog.rels c.table))
    && same_table (slice_get tables (target_of p c)) (option_map (λ k. k.to) (slice_get catalog.rels c.table))

abbrev pub all_ends_agree : Tables → List ℕ → List Step → List Reading → Bool
all_ends_agree catalog tables [] [] = true
all_ends_agree catalog tables [] (c ∷ cs) = false
all_ends_agree catalog tables (s ∷ ss) [] = false
all_ends_agree catalog tables (s ∷ ss) (c ∷ cs) = ends_agree catalog tables s.pattern c && all_ends_agree catalog tables ss cs

unfoldable pub agreeing : Tables → List Step → List (List ℕ) → List Choice
agreeing catalog steps lists =
    flat_map (λ cs. map (λ ts. record { readings = cs; tables = ts }) (filter (λ ts. all_ends_agree catalog ts steps cs) (one_of_each lists)))
    (one_of_each (map (λ s. s.readings) steps))

-- ---- narrowing: the readings whose ends have tables that their node variables may have

abbrev pub stands_at : Option (List ℕ) → Option ℕ → Bool
stands_at None table = false
stands_at (Some tables) None = false
stands_at (Some tables) (Some table) = list_any (λ t. nat_eq t table) tables

abbrev pub stands : Tables → List (List ℕ) → RelPattern → Reading → Bool
stands catalog lists p c =
    stands_at (slice_get lists (source_of p c)) (option_map (λ k. k.from) (slice_get catalog.rels c.table))
    && stands_at (slice_get lists (target_of p c)) (option_map (λ k. k.to) (slice_get catalog.rels c.table))

abbrev pub standing : Tables → List (List ℕ) → Step → Step
standing catalog lists s = record { pattern = s.pattern; readings = filter (stands catalog lists s.pattern) s.readings }

-- a reading does not deny a variable a table
abbrev pub suits : Tables → ℕ → ℕ → RelPattern → Reading → Bool
suits catalog v table p c =
    (not (nat_eq (source_of p c) v) || same_table (Some table) (option_map (λ k. k.from) (slice_get catalog.rels c.table)))
    && (not (nat_eq (target_of p c) v) || same_table (Some table) (option_map (λ k. k.to) (slice_get catalog.rels c.table)))

abbrev pub supports : Tables → ℕ → ℕ → Step → Bool
supports catalog v table s = list_any (suits catalog v table s.pattern) s.readings

-- ---- the search, which keeps the table of each node variable that a reading has fixed

-- nothing that is known forbids a table
abbrev pub may_be : Option ℕ → ℕ → Bool
may_be None table = true
may_be (Some known) table = nat_eq known table

-- it forbids none for a variable that there is
abbrev pub admits : Option (Option ℕ) → ℕ → Bool
admits None table = false
admits (Some known) table = may_be known table

-- the tables of all node variables, of these lists and as far as they are known
unfoldable pub filled : List (Option ℕ) → List (List ℕ) → List (List ℕ)
filled known [] = [] ∷ []
filled [] (ts ∷ tss) = []
filled (k ∷ ks) (ts ∷ tss) = flat_map (λ t. map (λ l. t ∷ l) (filled ks tss)) (filter (may_be k) ts)

-- the choices that go on with a table for the next node variable, if what is known of it allows that
abbrev pub taking : List (Option ℕ) → List Reading → List ℕ → List (List ℕ) → Option ℕ → ℕ → List Choice
taking known readings tables lists k table =
    if may_be k table then map (λ ts. record { readings = readings; tables = (tables ++ table ∷ []) ++ ts }) (filled (drop (suc (length tables)) known) lists) else []

-- what follows once the table of a variable is known, if nothing forbids it
abbrev pub knowing : ℕ → ℕ → List (Option ℕ) → (List (Option ℕ) → List Choice) → List Choice
knowing v table known go = if admits (slice_get known v) table then go (slice_set known v (Some table)) else []

-- what follows a reading, whose relationship table is there or not
abbrev pub reached : RelPattern → Reading → Option RelTable → List (Option ℕ) → (List (Option ℕ) → List Choice) → List Choice
reached p c None known go = []
reached p c (Some table) known go = knowing (source_of p c) table.from known (λ one. knowing (target_of p c) table.to one go)

-- the choices by the steps that are left, once these tables are known and these readings chosen
unfoldable pub searched : Tables → List (List ℕ) → List Step → List (Option ℕ) → List Reading → List Choice
searched catalog lists [] known chosen = map (λ ts. record { readings = chosen; tables = ts }) (filled known lists)
searched catalog lists (s ∷ ss) known chosen =
    flat_map (λ c. reached s.pattern c (slice_get catalog.rels c.table) known (λ ks. searched catalog lists ss ks (chosen ++ c ∷ []))) s.readings

-- those in which a pattern has this reading
abbrev pub following : Tables → List (List ℕ) → List Step → RelPattern → List (Option ℕ) → List Reading → Reading → List Choice
following catalog lists ss p known chosen c = reached p c (slice_get catalog.rels c.table) known (λ ks. searched catalog lists ss ks (chosen ++ c ∷ []))

-- ---- what a search goes through, and what it has found so far

pub record Space : Type 0 where
  pub catalog : Tables
  pub tables : List (List ℕ)
  pub most : ℕ

pub record Found : Type 0 where
  pub known : List (Option ℕ)
  pub readings : List Reading
  pub tables : List ℕ
  pub choices : List Choice

-- with these choices too, but no more than one above the limit
abbrev pub adding : ℕ → List Choice → Found → Found
adding most cs s = record s { choices = take (suc most) (s.choices ++ cs) }
