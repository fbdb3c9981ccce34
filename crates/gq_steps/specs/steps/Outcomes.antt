-- What a try of each kind of step does to rows and load numbers.
use Rattle.std.specs.Prelude.{◌≡◌, ◌≢◌, ◌⊎◌, ℕ, nat_eq, zero, suc, ◌+◌, ◌^◌, ◌<◌, ◌≤◌, Bool, true, false, Option, Some, List, [], ◌∷◌, All, length, slice_get, slice_index, slice_set}
use Rattle.gq_base.specs.Plain.{Graph}
use Rattle.gq_base.specs.Valid.{row_count}
use Rattle.gq_join.specs.Kept.{Held, matches_of, node_in, rel_in, place_of}
use Rattle.gq_plan.specs.Conditions.{passes, differs, no_loop}
use Rattle.gq_plan.specs.Meaning.{holds}
use Rattle.gq_plan.specs.declared.typed.Typed.{Typed}
use Rattle.gq_store.specs.Neighbours.{neighbours}
use Rattle.gq_steps.specs.steps.Hops.{IsHop, IsHopAt}
use Rattle.gq_plan.specs.Rows.{as_read, node_table, rel_table}
use Rattle.gq_plan.specs.declared.assignment.Assignment.{Assignment}
use Rattle.gq_plan.specs.declared.follow.Follow.{Follow}
use Rattle.gq_steps.specs.declared.plan_run.Tried.{Tried}
use Rattle.gq_steps.specs.declared.plan_run.Tried.TheVariants.{Past, Missed, Made}
use Rattle.gq_steps.specs.declared.follow.Hop.{Hop}

abbrev pub with_row : ℕ → ℕ → Assignment → Assignment
with_row v r row = record { nodes = slice_set row.nodes v r; rels = row.rels }

abbrev pub with_number : ℕ → ℕ → Assignment → Assignment
with_number x n row = record { nodes = row.nodes; rels = slice_set row.rels x n }

-- the row at the place
abbrev pub IsScanned : Graph → Typed → ℕ → ℕ → Assignment → Assignment → Tried → Type 0
IsScanned g y v place old new Past = (new ≡ old) × (row_count g.nodes (node_table y v) ≤ place)
IsScanned g y v place old new Missed = ⊥
IsScanned g y v place old new Made = (new ≡ with_row v place old) × (place < row_count g.nodes (node_table y v)) × (place + 1 < 2 ^ 32)

-- there is no relationship at the place
abbrev pub IsNoHop : Graph → Typed → Follow → ℕ → Assignment → Type 0
IsNoHop g y f place row =
    length (neighbours g (rel_table y f.rel) f.direction (slice_index row.nodes f.from)) ≤ place

-- the relationship at the place
abbrev pub IsHopOf : Graph → Typed → Follow → ℕ → Assignment → Hop → Type 0
IsHopOf g y f place row h =
    IsHop g (rel_table y f.rel) f.direction (slice_index row.nodes f.from) place h

-- the relationship at the place among those that are followed, or none where there is no such place
abbrev pub IsHopFound : Graph → Typed → Follow → ℕ → Assignment → Option Hop → Type 0
IsHopFound g y f place row found =
    IsHopAt g (rel_table y f.rel) f.direction (slice_index row.nodes f.from) place found

-- the relationship at the place, and the row to which it leads
abbrev pub IsExtended : Graph → Typed → Follow → ℕ → Assignment → Assignment → Tried → Type 0
IsExtended g y f place old new Past = (new ≡ old) × IsNoHop g y f place old
IsExtended g y f place old new Missed = ⊥
IsExtended g y f place old new Made = (h : Hop) × IsHopOf g y f place old h × (new ≡ with_number f.rel h.number (with_row f.to h.row old))

-- the relationship at the place, where it leads to the row that is there
abbrev pub IsClosed : Graph → Typed → Follow → ℕ → Assignment → Assignment → Tried → Type 0
IsClosed g y f place old new Past = (new ≡ old) × IsNoHop g y f place old
IsClosed g y f place old new Missed = (h : Hop) × IsHopOf g y f place old h × (h.row ≢ slice_index old.nodes f.to) × (new ≡ old)
IsClosed g y f place old new Made = (h : Hop) × IsHopOf g y f place old h × (h.row ≡ slice_index old.nodes f.to) × (new ≡ with_number f.rel h.number old)

-- the relationship at the place, wherever it leads
abbrev pub IsTaken : Graph → Typed → Follow → ℕ → Assignment → Assignment → Tried → Type 0
IsTaken g y f place old new Past = (new ≡ old) × IsNoHop g y f place old
IsTaken g y f place old new Missed = ⊥
IsTaken g y f place old new Made = (h : Hop) × IsHopOf g y f place old h × (new ≡ with_number f.rel h.number old)

-- whether the first relationship leads to the row that is there
abbrev pub IsMet : Graph → Typed → Follow → Assignment → Bool → Type 0
IsMet g y f row told =
    (IsNoHop g y f 0 row × (told ≡ false)) ⊎ ((h : Hop) × IsHopOf g y f 0 row h × (told ≡ nat_eq (slice_index row.nodes f.to) h.row))

-- what the kept variables have in a row is written in the place of what they had
abbrev pub set_all : List ℕ → (ℕ → ℕ) → List ℕ → List ℕ
set_all [] f xs = xs
set_all (v ∷ vs) f xs = set_all vs f (slice_set xs v (f v))

abbrev pub with_nodes : Held → ℕ → List ℕ → List ℕ → List ℕ
with_nodes h i vs xs = set_all vs (λ v. node_in h v i) xs

abbrev pub with_rels : Held → ℕ → List ℕ → List ℕ → List ℕ
with_rels h i vs xs = set_all vs (λ x. rel_in h x i) xs

abbrev pub with_kept : Held → ℕ → Assignment → Assignment
with_kept h i row = record { nodes = with_nodes h i h.nodes row.nodes; rels = with_rels h i h.rels row.rels }

pub record CanJoin (h : Held) (row : Assignment) : Type 0 where
  pub keys : All (λ v. v < length row.nodes) h.keys
  pub nodes : All (λ v. v < length row.nodes) h.nodes
  pub rels : All (λ x. x < length row.rels) h.rels
  pub node_places : All (λ v. place_of h.nodes v < length h.nodes) h.nodes
  pub rel_places : All (λ x. place_of h.rels x < length h.rels) h.rels

pub record IsMatch (h : Held) (place : ℕ) (old new : Assignment) : Type 0 where
  pub row : ℕ
  pub is : slice_get (matches_of h old) place ≡ Some row
  pub written : new ≡ with_kept h row old
  pub few : place + 1 < 2 ^ 32

-- the match at the place
abbrev pub IsJoined : Held → ℕ → Assignment → Assignment → Tried → Type 0
IsJoined h place old new Past = (new ≡ old) × (length (matches_of h old) ≤ place)
IsJoined h place old new Missed = ⊥
IsJoined h place old new Made = IsMatch h place old new

-- whether a test is true, the relationships of a pair are different, and a relationship is no loop
abbrev pub passes_at : Graph → Typed → Assignment → ℕ → Bool
passes_at g y row i = holds (passes g (as_read y row)) (slice_get y.tests i)

abbrev pub differs_at : Typed → Assignment → ℕ → Bool
differs_at y row p = holds (differs (as_read y row)) (slice_get y.pairs p)

abbrev pub no_loop_at : Typed → Assignment → ℕ → Bool
no_loop_at y row x = holds (no_loop (as_read y row)) (slice_get y.rels x)

-- a test has one place
abbrev pub tested : ℕ → Bool → Tried
tested zero true = Made
tested zero false = Missed
tested (suc place) passes = Past
