-- What contracts see of the implementations over memory (this project's profile).
use Rattle.std.specs.Prelude.{◌≡◌, ℕ, ◌+◌, ◌-◌, ◌^◌, ◌↔◌, ◌⊎◌, min, List, [], length, Contains, Result, IsErr}
use Rattle.gq_io.specs.Held.{held_of}
use Rattle.gq_io.specs.Outside.{Names}

-- the calls that fail, by their numbers from 0, and two counts of 64 bits: the calls made, and those that failed
pub record Calls : Type 0 where
  pub failing : List ℕ
  pub made : ℕ
  pub faults : ℕ

-- before the first call
abbrev pub no_calls : List ℕ → Calls
no_calls failing = record { failing = failing; made = 0; faults = 0 }

-- one call was made, and failed exactly where its number is one of those that fail
pub record IsCall {T E : Type 0} (old new : Calls) (result : Result T E) : Type 0 where
  pub fails : IsErr result ↔ Contains old.failing old.made
  pub counted : new.made ≡ min (old.made + 1) (2 ^ 64 - 1)
  pub same : new.failing ≡ old.failing

-- files by name, the unread bytes of the chosen one, and how often a name was not there
pub record Shelf : Type 0 where
  pub names : List (List ℕ)
  pub contents : List (List ℕ)
  pub left : List ℕ
  pub misses : ℕ

-- files of which none was chosen
abbrev pub new_shelf : List (List ℕ) → List (List ℕ) → Shelf
new_shelf names contents = record { names = names; contents = contents; left = []; misses = 0 }

-- the files of a shelf by their names
abbrev pub files_of : Shelf → Names
files_of shelf = held_of shelf.names shelf.contents

-- files of which some calls fail
pub record FailingShelf : Type 0 where
  pub shelf : Shelf
  pub calls : Calls

-- unread bytes, of which one read gives at most `piece`
pub record Feed : Type 0 where
  pub left : List ℕ
  pub piece : ℕ

-- before the first read
abbrev pub new_feed : List ℕ → ℕ → Feed
new_feed bytes piece = record { left = bytes; piece = piece }

-- unread bytes of which some reads fail
pub record FailingFeed : Type 0 where
  pub feed : Feed
  pub calls : Calls

-- bytes taken, of at most `room` in all and `piece` for each write; some writes of a nonempty piece fail
pub record FailingDrain : Type 0 where
  pub taken : List ℕ
  pub room : ℕ
  pub piece : ℕ
  pub calls : Calls

-- before the first write
abbrev pub empty_drain : ℕ → ℕ → List ℕ → FailingDrain
empty_drain room piece failing = record { taken = []; room = room; piece = piece; calls = no_calls failing }

-- a nonempty piece was written: it failed exactly where the call's number is one of those that fail, or no room was left
pub record IsWrite {T E : Type 0} (old new : FailingDrain) (result : Result T E) : Type 0 where
  pub fails : IsErr result ↔ (Contains old.calls.failing old.calls.made ⊎ (length old.taken ≡ old.room))
  pub counted : new.calls.made ≡ min (old.calls.made + 1) (2 ^ 64 - 1)

-- the room, the piece and the calls that fail are those of before
pub record KeepsLimits (old new : FailingDrain) : Type 0 where
  pub room : new.room ≡ old.room
  pub piece : new.piece ≡ old.piece
  pub failing : new.calls.failing ≡ old.calls.failing
