-- A file of a load (this project's profile).
use Rattle.std.specs.Prelude.{ℕ, Bool, if◌then◌else◌, List, length, Ok, Err}
use Rattle.gq_base.specs.Results.{and_then}
use Rattle.std.specs.Option.{ok_or}
use Rattle.std.specs.declared.result.Result.{Result}
use Rattle.gq_io.specs.Outside.{Names}
use Rattle.gq_loader.specs.declared.refusal.LoadRefusal.{LoadRefusal}
use Rattle.gq_loader.specs.declared.refusal.LoadRefusal.TheVariants as refusal

-- the bytes of a file, where there are not too many
abbrev pub if_short : List ℕ → (ℕ → Bool) → List ℕ → Result (List ℕ) LoadRefusal
if_short name is_short bytes = if is_short (length bytes) then Ok bytes else Err (refusal.FileTooLong name)

-- the bytes of the file of this name, where it is there and not too long
abbrev pub file_of : Names → (ℕ → Bool) → List ℕ → Result (List ℕ) LoadRefusal
file_of files is_short name = and_then (ok_or (files name) (refusal.NoFile name)) (if_short name is_short)
