-- How files in memory are read: what is left of the one that is chosen, and what a call copies from it.
use Rattle.std.specs.Prelude.{ℕ, ◌+◌, ◌<◌, ◌≤◌, ◌≡◌, List, [], ◌++◌, take, drop, length, get_or}
use Rattle.std.specs.declared.option.Option.{Option}
use Rattle.std.specs.declared.option.Option.TheVariants.{None, Some}

-- the bytes of the file at a place, from one byte on; none where no file is chosen
abbrev pub unread_of : List (List ℕ) → Option ℕ → ℕ → List ℕ
unread_of contents None from = []
unread_of contents (Some k) from = drop from (get_or contents k [])

-- `count` bytes from a place on, at most `most`, were copied to the front of a buffer: none only at the end or with no room
pub record Copies (all : List ℕ) (at count most : ℕ) (into : List ℕ) : Type 0 where
  pub bound : (count ≤ length into) × (count ≡ length (take count into))
  pub few : count ≤ most
  pub bytes : drop at all ≡ take count into ++ drop (at + count) all
  pub end : count ≡ 0 → 0 < length into → 0 < most → drop (at + count) all ≡ []
