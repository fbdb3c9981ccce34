-- A step that closes makes something only at places that lead to the row that is there.
use Rattle.std.proofs.Common.{◌≡◌, ◌≢◌, ◌⊎◌, inl, inr, ℕ, zero, suc, ◌+◌, ◌^◌, ◌<◌, ◌≤◌, Bool, false, ◌&&◌, nat_lt, Option, Some, None, List, [], ◌∷◌, length, drop, get_or, refl, sym, ap, ◌∙◌, subst, arith}
use Rattle.std.specs.Prelude.{All, slice_get, slice_index, slice_index_or}
use Rattle.std.proofs.lemmas.Bool.{and_parts, eqb-false, ltb-true, lt-ltb}
use Rattle.std.proofs.lemmas.Option.{get_or_from_slice_get, slice_get_within}
use Rattle.gq_base.specs.Directions.{opposite}
use Rattle.gq_bits.specs.declared.TheConstants.{VECTOR}
use Rattle.gq_base.specs.declared.direction.Direction.{Direction}
use Rattle.gq_plan.specs.Plans.{Close}
use Rattle.gq_plan.specs.Rows.{rel_table}
use Rattle.gq_plan.specs.declared.assignment.Assignment.{Assignment}
use Rattle.gq_store.specs.Neighbours.{near_rows, neighbours}
use Rattle.gq_sift.specs.steps.Candidates.{AreCandidates, is_row, leads_to}
use Rattle.gq_steps.specs.steps.Hops.{IsHop}
use Rattle.gq_steps.specs.Levels.{Run, step_at, built_at, known, before}
use Rattle.gq_steps.specs.Moves.{IsRun, IsHeld, IsMissed, IsPast}
use Rattle.gq_steps.specs.Tries.{tries}
use Rattle.gq_steps.specs.declared.plan_run.Tried.TheVariants.{Past, Missed}
use Rattle.gq_steps.proofs.Hopping.{hop_there}
use Rattle.gq_steps.proofs.Stepping.{Follows, follows}
use Rattle.gq_steps.proofs.Trying.{close_goes, close_tried}

-- the item at a place, by what is behind it
pub first_behind : {X : Type 0} (xs : List (List X)) (n : ℕ) (rest : List (List X)) → drop n xs ≡ [] ∷ rest → get_or xs n [] ≡ []
first_behind [] zero rest e = cc
first_behind [] (suc n) rest e = cc
first_behind (z ∷ xs) zero rest e = cc
first_behind (z ∷ xs) (suc n) rest e = first_behind xs n rest e

pub none_behind : {X : Type 0} (xs : List (List X)) (n : ℕ) → drop n xs ≡ [] → get_or xs n [] ≡ []
none_behind [] n e = refl
none_behind (z ∷ xs) zero e = cc
none_behind (z ∷ xs) (suc n) e = none_behind xs n e

pub none_there : {X : Type 0} (xs : List X) (i : ℕ) → slice_get xs i ≡ None → length xs ≤ i
none_there [] i e = omega arith
none_there (x ∷ xs) zero e = cc
none_there (x ∷ xs) (suc i) e = omega (arith, none_there xs i e)

past_or_there : (xs : List ℕ) (i : ℕ) (o : Option ℕ) → slice_get xs i ≡ o → ((x : ℕ) × (slice_get xs i ≡ Some x) × (o ≡ Some x)) ⊎ ((length xs ≤ i) × (o ≡ None))
past_or_there [] i o e = inr (omega arith, sym e)
past_or_there (x ∷ xs) zero o e = inl (x, refl, sym e)
past_or_there (x ∷ xs) (suc i) o e = elim (past_or_there xs i o e) [ inl h ↦ inl h | inr h ↦ inr (omega (arith, h.0), h.1) ]

module _ (c : Run) (run : IsRun c) (d : ℕ) (low : d < length c.steps) (row : Assignment) (held : IsHeld c row (known c d)) (column : Bool) (x from to : ℕ) (way : Direction) (is : step_at c d ≡ Close column x from to way) where
  abbrev table : ℕ
  table = rel_table c.typed x

  abbrev near : ℕ
  near = slice_index row.nodes from

  abbrev list : List ℕ
  list = neighbours c.graph table way near

  abbrev follow : Follows c x from to way
  follow = follows c run column x from to way (close_goes c run d low row held column x from to way is)

  -- the relationship at a place of the list
  hop : (place r : ℕ) → slice_get list place ≡ Some r → All (λ other. other < near_rows c.graph table (opposite way)) list → length list < 2 ^ 32 → (n : ℕ) × IsHop c.graph table way near place (record { number = n; row = r })
  hop place r at ends few =
      hop_there c.graph table follow.table follow.table_is way near place r at (subst (λ o. o < near_rows c.graph table (opposite way)) (get_or_from_slice_get list place r 0 at) (ends place 0 (slice_get_within list place r at))) few

  nothing : (place : ℕ) → leads_to list place (slice_index row.nodes to) ≡ false → All (λ other. other < near_rows c.graph table (opposite way)) list → length list < 2 ^ 32
      → slice_index_or (tries c.graph c.typed (built_at c d) (step_at c d) (before c row d)) place [] ≡ []
  nothing place off ends few = elim (past_or_there list place (slice_get list place) refl) [
    | inl h ↦
        (let hop_here = hop place h.0 h.1 ends few in
        let other : h.0 ≢ slice_index row.nodes to = eqb-false h.0 (slice_index row.nodes to) (sym (ap (is_row (slice_index row.nodes to)) h.1) ∙ off) in
        let missed : IsMissed c d place row row = close_tried c run d low row held column x from to way is place row Missed (record { number = hop_here.0; row = h.0 }, hop_here.1, other, refl) in
        first_behind (tries c.graph c.typed (built_at c d) (step_at c d) (before c row d)) place _ missed.missed)
    | inr h ↦
        (let past : IsPast c d place row row = close_tried c run d low row held column x from to way is place row Past (refl, h.0) in
        none_behind (tries c.graph c.typed (built_at c d) (step_at c d) (before c row d)) place past.past)
  ]

  pub closing_candidates : (first count : ℕ) (marks : List Bool) → length marks ≡ VECTOR → ((j : ℕ) → slice_index_or marks j false ≡ (nat_lt j count && leads_to list (first + j) (slice_index row.nodes to)))
      → All (λ other. other < near_rows c.graph table (opposite way)) list → length list < 2 ^ 32 → AreCandidates c d first count row marks
  closing_candidates first count marks len each ends few = record {
    len = len;
    below = λ j on. ltb-true j count (and_parts (nat_lt j count) _ (sym (each j) ∙ on)).0;
    others = λ j inside off. nothing (first + j) (sym (ap (λ b. b && leads_to list (first + j) (slice_index row.nodes to)) (lt-ltb j count inside)) ∙ sym (each j) ∙ off) ends few;
  }
