-- Places of a part of a list whose relationships stand side by side.
use Rattle.std.proofs.Common.{◌≡◌, ◌≢◌, ◌+◌, ◌-◌, ◌<◌, ◌≤◌, ◌∙◌, ℕ, Bool, true, false, List, None, refl, sym, subst, arith}
use Rattle.std.specs.Prelude.{slice_get}
use Rattle.gq_base.specs.Directions.{opposite}
use Rattle.gq_base.specs.Plain.{Graph}
use Rattle.gq_bits.specs.Places.{is_marked}
use Rattle.gq_filter.specs.declared.placed.PlacedTest.{PlacedTest}
use Rattle.gq_sift.specs.declared.finding.ListPart.{ListPart}
use Rattle.gq_sift.specs.steps.EdgeTests.{IsSpanEnd, StandsWhere}
use Rattle.gq_sift.specs.steps.Parts.{AreIn, IsPart, numbers_of}
use Rattle.gq_sift.proofs.Refused.{stands_where}
use Rattle.gq_store.specs.Neighbours.{near_ends}
use Rattle.gq_store.proofs.Reading.{ends_same, numbers_some}

-- no place behind a part is marked
pub unmarked : (p : ListPart) (marks : List Bool) → AreIn p marks → (k : ℕ) → p.high - p.low ≤ k → is_marked marks k ≡ false
unmarked p marks are k high = at (is_marked marks k) refl
  where
    at : (b : Bool) → is_marked marks k ≡ b → is_marked marks k ≡ false
    at false off = off
    at true on = let low = (are.below k on).1 in absurd (omega (arith, low, high))

module _ (g : Graph) (p : ListPart) (part : IsPart g p) where
  -- each place of a part has a load number
  numbered : (place : ℕ) → place < p.high → slice_get (numbers_of g p) place ≢ None
  numbered place low =
      let inside = part.inside in
      numbers_some p.row place (near_ends g p.table p.direction) (near_ends g p.table (opposite p.direction)) (ends_same g p.table (opposite p.direction) p.direction) (omega (arith, low, inside))

  -- so something is true of where they stand that is true of a place before the end
  pub spanned : (t : PlacedTest) (high : ℕ) → IsSpanEnd g p t high → (is : ℕ → Type 0) (j : ℕ) → p.low + j < p.high → is (high - (p.high - p.low) + j) → StandsWhere g p is (p.low + j)
  spanned t high s is j below so =
      let ends = s.ends in
      let stands : high - (p.high - p.low) + j ≡ s.first + (p.low + j) = omega (arith, ends, below) in
      stands_where g p is (p.low + j) (s.first + (p.low + j)) (λ none. numbered (p.low + j) below (sym (s.stand (p.low + j) below) ∙ none)) (s.stand (p.low + j) below) (subst is stands so)
