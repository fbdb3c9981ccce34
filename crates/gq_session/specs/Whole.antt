-- A session over a whole input, with no word of pieces, limits or places.
use Rattle.std.specs.Prelude.{◌≡◌, ◌⊎◌, ℕ, ◌<◌, List, [], ◌∷◌, ◌++◌, length, if◌then◌else◌, Result, Ok, Err}
use Rattle.std.specs.declared.option.Option.{Option}
use Rattle.std.specs.declared.option.Option.TheVariants.{Some}
use Rattle.std.specs.Io.KnownBytes.{Appends}
use Rattle.gq_io.specs.Causes.{Rose}
use Rattle.gq_io.specs.Outside.{AppendsFront}
use Rattle.gq_session.specs.Scanning.{ended_in, ends, start, next_state}
use Rattle.gq_session.specs.Replies.{Replies, Rule, Wrote}
use Rattle.gq_session.specs.Sessions.{Span}
use Rattle.gq_session.specs.declared.scan.State.{State}
use Rattle.gq_session.specs.declared.scan.State.TheVariants as at
use Rattle.gq_session.specs.declared.answering.Tone.{Tone}
use Rattle.gq_session.specs.declared.run.Stop.{Stop}
use Rattle.gq_session.specs.declared.run.Stop.TheVariants as stop

-- the statements of a text, where some bytes of the first were read: a cut at each `;` in the plain state, and the last bytes
abbrev pub cut_from : State → List ℕ → List ℕ → List (List ℕ)
cut_from s rest [] = rest ∷ []
cut_from s rest (b ∷ bs) = if ends s b then rest ∷ cut_from at.Plain [] bs else cut_from (next_state s b) (rest ++ b ∷ []) bs

abbrev pub statements : List ℕ → List (List ℕ)
statements text = cut_from at.Plain [] text

-- the bytes after the last statement end
abbrev pub tail_from : State → List ℕ → List ℕ → List ℕ
tail_from s rest [] = rest
tail_from s rest (b ∷ bs) = if ends s b then tail_from at.Plain [] bs else tail_from (next_state s b) (rest ++ b ∷ []) bs

-- some front of the text ends in so long a tail
pub record HasLongTail (long : ℕ) (s : State) (rest text : List ℕ) : Type 0 where
  pub front : List ℕ
  pub back : List ℕ
  pub whole : text ≡ front ++ back
  pub over : long < length (tail_from s rest front)

-- the input has more than `most` bytes, or more than `long` bytes after a statement end hold no other
abbrev pub IsTooLong : ℕ → ℕ → List ℕ → Type 0
IsTooLong long most text = (most < length text) ⊎ HasLongTail long at.Plain [] text

-- how a session over a whole text may end that begins in this state, and the replies that are written then: to all its statements, or, where a limit
-- is passed, to those that ended before
abbrev pub Permits : {S : Type 0} → Rule S → S → ℕ → ℕ → List ℕ → Result Tone Stop → List ℕ → Type 0
Permits {S} answers before long most text (Ok t) replies =
    (¬ IsTooLong long most text) × ((after : S) × Replies answers before after (statements text) t replies)
Permits {S} answers before long most text (Err stop.TooLong) replies =
    IsTooLong long most text × ((after : S) × (t : Tone) × Replies answers before after (ended_in long most start text) t replies)
Permits answers before long most text (Err stop.Read) replies = ⊥
Permits answers before long most text (Err stop.Write) replies = ⊥

-- the replies of a permitted end were written
pub record Wholly {S : Type 0} (answers : Rule S) (before : S) (long most : ℕ) (text : List ℕ) (result : Result Tone Stop) (old new : Option (List ℕ)) : Type 0 where
  pub replies : List ℕ
  pub permitted : Permits answers before long most text result replies
  pub moved : Appends old new replies

-- a front of the replies of a permitted end was written
pub record Partly {S : Type 0} (answers : Rule S) (before : S) (long most : ℕ) (text : List ℕ) (old new : Option (List ℕ)) : Type 0 where
  pub result : Result Tone Stop
  pub replies : List ℕ
  pub permitted : Permits answers before long most text result replies
  pub moved : AppendsFront old new replies

-- the replies to the statements that ended in some front of the text were written
pub record SoFar {S : Type 0} (answers : Rule S) (before : S) (long most : ℕ) (text : List ℕ) (old new : Option (List ℕ)) : Type 0 where
  pub front : List ℕ
  pub back : List ℕ
  pub whole : text ≡ front ++ back
  pub after : S
  pub tone : Tone
  pub wrote : Wrote answers before after (ended_in long most start front) tone old new

-- how a session over a whole text ended; a failed read or write has its cause
abbrev pub Answers : {S : Type 0} → Rule S → S → ℕ → ℕ → List ℕ → Span → Span → Result Tone Stop → Type 0
Answers answers before long most text input out (Err stop.Read) = SoFar answers before long most text out.old out.new × Rose input.before input.now
Answers answers before long most text input out (Err stop.Write) = Partly answers before long most text out.old out.new × Rose out.before out.now
Answers answers before long most text input out result = Wholly answers before long most text result out.old out.new

-- the same for each text that the input is told to have
abbrev pub Whole : {S : Type 0} → Rule S → S → ℕ → ℕ → Span → Span → Result Tone Stop → Type 0
Whole answers before long most input out result = (text : List ℕ) → input.old ≡ Some text → Answers answers before long most text input out result
