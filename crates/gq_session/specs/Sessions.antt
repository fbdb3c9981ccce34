-- A session's answers and their causes.
use Rattle.std.specs.Prelude.{◌≡◌, ◌⊎◌, ℕ, ◌+◌, ◌≤◌, List, [], ◌∷◌, ◌++◌, length, true, false, Result, Ok, Err, if◌then◌else◌}
use Rattle.std.specs.declared.option.Option.{Option}
use Rattle.std.specs.Io.KnownBytes.{Consumes, IsAtEnd}
use Rattle.gq_io.specs.Causes.{Rose}
use Rattle.gq_session.specs.Scanning.{Place, start, place_after, ended_in}
use Rattle.gq_session.specs.Replies.{Rule, Wrote, WroteFront}
use Rattle.gq_session.specs.declared.answering.Tone.{Tone}
use Rattle.gq_session.specs.declared.run.PieceStop.{PieceStop}
use Rattle.gq_session.specs.declared.run.PieceStop.TheVariants as piece_stop
use Rattle.gq_session.specs.declared.run.Stop.{Stop}
use Rattle.gq_session.specs.declared.run.Stop.TheVariants as stop

-- a source or a sink at a call and at its return: what it tells, and its count of faults
pub record Span : Type 0 where
  pub old : Option (List ℕ)
  pub new : Option (List ℕ)
  pub before : ℕ
  pub now : ℕ

abbrev pub span_of : {D : Type 0} → (D → Option (List ℕ)) → (D → ℕ) → D → D → Span
span_of told faults old new = record { old = told old; new = told new; before = faults old; now = faults new }

-- the statements that ended in some front of the text were answered but for a rest of the last reply
pub record Broke {S : Type 0} (answers : Rule S) (before : S) (long most : ℕ) (p : Place) (text : List ℕ) (old new : Option (List ℕ)) : Type 0 where
  pub front : List ℕ
  pub rest : List ℕ
  pub whole : text ≡ front ++ rest
  pub wrote : WroteFront answers before (ended_in long most p front) old new

abbrev pub TakenBy : {S : Type 0} → Rule S → S → S → ℕ → ℕ → Place → List ℕ → Place → Span → Result Tone PieceStop → Type 0
TakenBy answers before after long most p piece q out (Ok t) = (place_after long most p piece ≡ q) × Wrote answers before after (ended_in long most p piece) t out.old out.new
TakenBy answers before after long most p piece q out (Err piece_stop.Write) = Broke answers before long most p piece out.old out.new × Rose out.before out.now
TakenBy answers before after long most p piece q out (Err piece_stop.TooLong) = ((place_after long most p piece).stopped ≡ true) × (t : Tone) × Wrote answers before after (ended_in long most p piece) t out.old out.new

-- the count of faults is what it was
abbrev pub IsStill : Span → Type 0
IsStill span = span.now ≡ span.before

-- it is, unless the piece ended with a failed write
abbrev pub IsStillBut : Span → Result Tone PieceStop → Type 0
IsStillBut out (Err piece_stop.Write) = Unit {0}
IsStillBut out result = IsStill out

-- what a piece did: from which state to which, and from which place to which
pub record Taken {S : Type 0} (answers : Rule S) (before after : S) (long most : ℕ) (p : Place) (piece : List ℕ) (q : Place) (out : Span) (result : Result Tone PieceStop) : Type 0 where
  pub taken : TakenBy answers before after long most p piece q out result
  pub later : out.before ≤ out.now
  pub still : IsStillBut out result

-- the statements of a whole input: those that ended, and the last bytes where no limit stopped it
abbrev pub statements_of : ℕ → ℕ → List ℕ → List (List ℕ)
statements_of long most text = ended_in long most start text ++ (if (place_after long most start text).stopped then [] else (place_after long most start text).rest ∷ [])

-- how a session ended, over the bytes that it ate
abbrev pub Ends : {S : Type 0} → Rule S → S → S → ℕ → ℕ → List ℕ → Span → Span → Result Tone Stop → Type 0
Ends answers before after long most eaten input out (Ok t) =
    ((place_after long most start eaten).stopped ≡ false) × IsAtEnd input.new × Wrote answers before after (statements_of long most eaten) t out.old out.new
Ends answers before after long most eaten input out (Err stop.Read) =
    (t : Tone) × Wrote answers before after (ended_in long most start eaten) t out.old out.new × Rose input.before input.now
Ends answers before after long most eaten input out (Err stop.Write) =
    (Broke answers before long most start eaten out.old out.new ⊎ (IsAtEnd input.new × WroteFront answers before (statements_of long most eaten) out.old out.new)) × Rose out.before out.now
Ends answers before after long most eaten input out (Err stop.TooLong) =
    ((place_after long most start eaten).stopped ≡ true) × (t : Tone) × Wrote answers before after (ended_in long most start eaten) t out.old out.new

-- the first call that failed ended the session: no other count of faults than that of what failed is another
abbrev pub EndsAtFault : Span → Span → Result Tone Stop → Type 0
EndsAtFault input out (Err stop.Read) = IsStill out
EndsAtFault input out (Err stop.Write) = IsStill input
EndsAtFault input out result = IsStill input × IsStill out

-- what a session did, from which state to which
pub record Session {S : Type 0} (answers : Rule S) (before after : S) (long most : ℕ) (input out : Span) (result : Result Tone Stop) : Type 0 where
  pub eaten : List ℕ
  pub took : Consumes input.old input.new eaten
  pub few : length eaten ≤ most + 1
  pub ends : Ends answers before after long most eaten input out result
  pub input_later : input.before ≤ input.now
  pub out_later : out.before ≤ out.now
  pub first : EndsAtFault input out result
