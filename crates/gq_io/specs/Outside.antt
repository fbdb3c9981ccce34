-- What the calls of the outside do to the bytes that are told (this project's profile).
use Rattle.std.specs.Prelude.{◌≡◌, ℕ, ◌<◌, ◌≤◌, List, ◌++◌, length, Bool, true, false, IfSome, IsSome, IfOk, Result, Ok, Err}
use Rattle.std.specs.declared.option.Option.{Option}
use Rattle.std.specs.declared.option.Option.TheVariants.{None}
use Rattle.std.specs.Io.KnownBytes.{Appends, IsAtEnd}

-- files by name: the bytes of each name that is there
abbrev pub Names : Type 0
Names = List ℕ → Option (List ℕ)

-- the choice of a file by its name answered whether it is there, and leaves these bytes to read
abbrev pub Selects : Option Names → List ℕ → Option (List ℕ) → Bool → Type 0
Selects held name left true = IfSome held (λ files. IsSome (files name) × (left ≡ files name))
Selects held name left false = IfSome held (λ files. files name ≡ None) × IsAtEnd left

-- a write took at most its piece, and at least one byte of a piece that has one
abbrev pub TakesSome : {E : Type 0} → Result ℕ E → List ℕ → Type 0
TakesSome result piece = IfOk result (λ n. (n ≤ length piece) × (0 < length piece → 0 < n))

-- told bytes grew by some front of the text
pub record AppendsFront (old new : Option (List ℕ)) (text : List ℕ) : Type 0 where
  pub front : List ℕ
  pub rest : List ℕ
  pub whole : text ≡ front ++ rest
  pub moved : Appends old new front

-- `Ok`: told bytes grew by the text; `Err`: by some front of it
abbrev pub Writes : {T E : Type 0} → Option (List ℕ) → Option (List ℕ) → List ℕ → Result T E → Type 0
Writes old new text (Ok _) = Appends old new text
Writes old new text (Err _) = AppendsFront old new text
