-- How the words of a command line are read as arguments.
use Rattle.std.specs.Prelude.{◌≡◌, ◌≢◌, ◌⊎◌, List, [], Result, Ok, Err}
use Rattle.clap.specs.Words.{Text, fault_of, matches_of}
use Rattle.gq_arguments.specs.Command.{the_command}
use Rattle.gq_arguments.specs.Meaning.{Means}
use Rattle.gq_arguments.specs.declared.meaning.Arguments.{Arguments}
use Rattle.gq_arguments.specs.declared.reading.ArgumentsRefusal.{ArgumentsRefusal}
use Rattle.gq_arguments.specs.declared.reading.ArgumentsRefusal.TheVariants.{Usage, Memory}

-- by `clap`, the command has matches for the words, and the matches say this
pub record IsRead (words : List Text) (read : Arguments) : Type 0 where
  pub taken : fault_of the_command words ≡ []
  pub means : Means (matches_of the_command words) read

-- by `clap`, the command has no matches for the words, or its matches say nothing
abbrev pub IsMisused : List Text → Type 0
IsMisused words = (fault_of the_command words ≢ []) ⊎ ((read : Arguments) → ¬ (Means (matches_of the_command words) read))

-- the words were read, or refused for their own sake or for want of memory
abbrev pub Reads : List Text → Result Arguments ArgumentsRefusal → Type 0
Reads words (Ok read) = IsRead words read
Reads words (Err Usage) = IsMisused words
Reads words (Err Memory) = Unit {0}
