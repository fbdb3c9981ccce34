-- What a bounded read of all that is left answers (this project's profile).
use Rattle.std.specs.Prelude.{◌≡◌, ◌≢◌, ℕ, ◌+◌, ◌<◌, ◌≤◌, List, length, Result, Ok, Err}
use Rattle.std.specs.declared.option.Option.{Option}
use Rattle.std.specs.Io.KnownBytes.{Consumes, IsAtEnd}
use Rattle.gq_io.specs.Causes.{Rose}
use Rattle.gq_io.specs.declared.reading.ReadFile.{ReadFile}
use Rattle.gq_io.specs.declared.reading.ReadFile.TheVariants.{Whole, TooLong}
use Rattle.gq_io.specs.declared.reading.ReadStop.{ReadStop}
use Rattle.gq_io.specs.declared.reading.ReadStop.TheVariants as stop

-- the answer at these bytes, of which at most so many may be read: all of them, or that they are too many
abbrev pub AnswersFor : ℕ → List ℕ → ReadFile → Type 0
AnswersFor most all (Whole bytes) = (length all ≤ most) × (bytes ≡ all)
AnswersFor most all TooLong = most < length all

-- where a read stands that ate these bytes: at the end with all of them, past `most`, or anywhere after a failure
abbrev pub EndsAfter : ℕ → List ℕ → Option (List ℕ) → Result ReadFile ReadStop → Type 0
EndsAfter most eaten left (Ok (Whole bytes)) = (length eaten ≤ most) × (bytes ≡ eaten) × IsAtEnd left
EndsAfter most eaten left (Ok TooLong) = most < length eaten
EndsAfter most eaten left (Err _) = Unit {0}

-- a read ate at most one byte more than `most`, and answers by what it ate
pub record ReadsWithin (most : ℕ) (old new : Option (List ℕ)) (result : Result ReadFile ReadStop) : Type 0 where
  pub eaten : List ℕ
  pub took : Consumes old new eaten
  pub few : length eaten ≤ most + 1
  pub ends : EndsAfter most eaten new result

-- the count of faults did not fall: it rose where a read failed, and is as it was after each other answer
pub record FailsByFault (before now : ℕ) (result : Result ReadFile ReadStop) : Type 0 where
  pub later : before ≤ now
  pub kept : result ≢ Err stop.Failed → now ≡ before
  pub failed : result ≡ Err stop.Failed → Rose before now
