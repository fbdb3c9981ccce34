-- Places of a span that stay where the cells there pass, and go where they do not.
use Rattle.std.proofs.Common.{◌≡◌, ◌∙◌, ◌<◌, ◌≤◌, ◌&&◌, ℕ, ℤ, Bool, List, Option, true, false, inl, inr, refl, sym, ap}
use Rattle.std.proofs.lemmas.Bool.{cases_lt, true≢false}
use Rattle.gq_bits.specs.Places.{is_marked}
use Rattle.gq_column.specs.Cells.{cell_at}
use Rattle.gq_filter.specs.LaneTests.{holds, passes}
use Rattle.gq_filter.specs.Placed.{Passes, Refuses}
use Rattle.gq_filter.specs.RowLists.{cells_at}
use Rattle.gq_filter.specs.declared.placed.PlacedTest.{PlacedTest}

pub marked_below : (marks : List Bool) (count : ℕ) → ((k : ℕ) → count ≤ k → is_marked marks k ≡ false) → (k : ℕ) → is_marked marks k ≡ true → k < count
marked_below marks count within k on = elim (cases_lt k count) [
  | inl low ↦ low
  | inr high ↦ absurd (true≢false (sym on ∙ within k high))
]

module _ (t : PlacedTest) (place : ℕ) where
  pub stays : (old new : Bool) → new ≡ (old && holds (cells_at t.feeds.now place) t.test.now) → (old ≡ true → place < t.places) → new ≡ true → (old ≡ true) × Passes t place
  stays true new is low on = (refl, record { within = low refl; on = sym is ∙ on })
  stays false new is low on = absurd (true≢false (sym on ∙ is))

  pub goes : (old new : Bool) → new ≡ (old && holds (cells_at t.feeds.now place) t.test.now) → (old ≡ true → place < t.places) → old ≡ true → new ≡ false → Refuses t place
  goes true new is low on off = record { within = low refl; fails = sym is ∙ off }
  goes false new is low on off = absurd (true≢false (sym on))

-- a cell, by its row
pub at_row : (test : ℤ → Bool) (cells : List (Option ℤ)) (a b : ℕ) → a ≡ b → passes test (cell_at cells a) ≡ passes test (cell_at cells b)
at_row test cells a b same = ap (λ row. passes test (cell_at cells row)) same
