-- What a sink took of the bytes put into a batch, and what waits for it (this project's profile).
use Rattle.std.specs.Prelude.{◌≡◌, ℕ, List, [], ◌++◌, Result, Ok, Err}
use Rattle.std.specs.declared.option.Option.{Option}
use Rattle.std.specs.Io.KnownBytes.{Appends}
use Rattle.gq_io.specs.Outside.{AppendsFront}

-- the sink took the front of what had waited and of the text behind it, and the rest waits
pub record Put (old new : Option (List ℕ)) (waited waits text : List ℕ) : Type 0 where
  pub moved : List ℕ
  pub took : Appends old new moved
  pub whole : waited ++ text ≡ moved ++ waits

-- `Ok`: the text was put; `Err`: the sink took some front of what had waited and of the text
abbrev pub Puts : {T E : Type 0} → Option (List ℕ) → Option (List ℕ) → List ℕ → List ℕ → List ℕ → Result T E → Type 0
Puts old new waited waits text (Ok _) = Put old new waited waits text
Puts old new waited waits text (Err _) = AppendsFront old new (waited ++ text)

-- `Ok`: the sink took all that had waited; `Err`: some front of it
abbrev pub Flushes : {T E : Type 0} → Option (List ℕ) → Option (List ℕ) → List ℕ → List ℕ → Result T E → Type 0
Flushes old new waited waits (Ok _) = Appends old new waited × (waits ≡ [])
Flushes old new waited waits (Err _) = AppendsFront old new waited
