-- The places of numbers in the order of relationships.
use Rattle.std.specs.Prelude.{ℕ, ◌≡◌, ◌^◌, ◌<◌, List, length, slice_index}
use Rattle.std.specs.List.{concat}

-- the place at which a number stands in an order
pub record IsPlaceOf (order : List ℕ) (number place : ℕ) : Type 0 where
  pub within : place < length order
  pub there : slice_index order place ≡ number

-- each number has its place in the order of all
pub record ArePlaced (numbers : List (List ℕ)) (places : List ℕ) : Type 0 where
  pub few : length places < 2 ^ 32
  pub len : length places ≡ length (concat numbers)
  pub placed : (number : ℕ) → number < length places → IsPlaceOf (concat numbers) number (slice_index places number)
