-- Sixty-four places that go along a chain together: each node variable has a row for each of them.
use Rattle.std.specs.Prelude.{◌≡◌, ◌≢◌, ◌⊎◌, ℕ, ◌+◌, ◌*◌, ◌^◌, ◌<◌, ◌≤◌, Bool, true, false, List, Option, IfSome, length, map, slice_get, slice_index}
use Rattle.std.specs.List.{range_with_len}
use Rattle.gq_base.specs.Directions.{opposite}
use Rattle.gq_base.specs.Plain.{Graph}
use Rattle.gq_bits.specs.Places.{is_marked}
use Rattle.gq_plan.specs.Rows.{rel_table}
use Rattle.gq_plan.specs.declared.assignment.Assignment.{Assignment}
use Rattle.gq_plan.specs.declared.follow.Follow.{Follow}
use Rattle.gq_plan.specs.declared.typed.Typed.{Typed}
use Rattle.gq_store.specs.Neighbours.{near_rows, neighbours}

-- what an assignment is at one of the places
abbrev pub place_row : Assignment → List ℕ → ℕ → Assignment
place_row row rows j = record { nodes = map (λ v. slice_index rows (64 * v + j)) (range_with_len 0 (length row.nodes)); rels = row.rels }

-- what is done at a place: of the assignment there, whether it stays, and the one that is there then
abbrev pub Doing : Type 1
Doing = ℕ → Assignment → Bool → Assignment → Type 0

-- it is done at one of the places, if it is marked
pub record IsPut (does : Doing) (row : Assignment) (offset j : ℕ) (rows new_rows : List ℕ) (marks new_marks : List Bool) : Type 0 where
  pub len : length new_rows ≡ length rows
  pub told : is_marked marks (offset + j) ≡ true → does j (place_row row rows j) (is_marked new_marks (offset + j)) (place_row row new_rows j)
  pub off : is_marked marks (offset + j) ≡ false → is_marked new_marks (offset + j) ≡ false
  pub same : (i : ℕ) → i < 64 → i ≢ j → place_row row new_rows i ≡ place_row row rows i
  pub others : (k : ℕ) → k ≢ offset + j → is_marked new_marks k ≡ is_marked marks k

-- it is done at the first ones, and at no other
pub record IsWalked (does : Doing) (row : Assignment) (offset n : ℕ) (rows new_rows : List ℕ) (marks new_marks : List Bool) : Type 0 where
  pub len : length new_rows ≡ length rows
  pub told : (j : ℕ) → j < n → j < 64 → is_marked marks (offset + j) ≡ true → does j (place_row row rows j) (is_marked new_marks (offset + j)) (place_row row new_rows j)
  pub off : (j : ℕ) → j < 64 → is_marked marks (offset + j) ≡ false → is_marked new_marks (offset + j) ≡ false
  pub outside : (k : ℕ) → (k < offset) ⊎ (offset + 64 ≤ k) → is_marked new_marks k ≡ is_marked marks k
  pub rest : (j : ℕ) → n ≤ j → j < 64 → (place_row row new_rows j ≡ place_row row rows j) × (is_marked new_marks (offset + j) ≡ is_marked marks (offset + j))

-- what is found leads on: the row to which the first relationship leads of those that are followed, if there is one
pub record IsFound (g : Graph) (y : Typed) (f : Follow) (old : Assignment) (found : Option ℕ) : Type 0 where
  pub first : found ≡ slice_get (neighbours g (rel_table y f.rel) f.direction (slice_index old.nodes f.from)) 0
  pub inside : IfSome found (λ other. other < near_rows g (rel_table y f.rel) (opposite f.direction))
  pub few : length (neighbours g (rel_table y f.rel) f.direction (slice_index old.nodes f.from)) < 2 ^ 32
