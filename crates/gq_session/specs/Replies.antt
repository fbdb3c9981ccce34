-- The replies to statements, where a rule says which replies a statement may have.
use Rattle.std.specs.Prelude.{◌≡◌, ℕ, List, [], ◌∷◌, ◌++◌, Result, Ok, Err}
use Rattle.std.specs.declared.option.Option.{Option}
use Rattle.std.specs.Io.KnownBytes.{Appends}
use Rattle.gq_io.specs.Outside.{AppendsFront}
use Rattle.gq_session.specs.Tones.{worse}
use Rattle.gq_session.specs.declared.answering.Tone.{Tone}
use Rattle.gq_session.specs.declared.answering.Tone.TheVariants as tone

-- in which state a statement may have which reply, of which tone, and what the state is then
abbrev pub Rule : Type 0 → Type 1
Rule S = S → List ℕ → Tone → List ℕ → S → Type 0

-- the text is one reply for each statement, in their order, each in the state that the one before left; `t` is the worst of
-- them
abbrev pub Replies : {S : Type 0} → Rule S → S → S → List (List ℕ) → Tone → List ℕ → Type 0
Replies answers before after [] t text = (t ≡ tone.Good) × (text ≡ []) × (after ≡ before)
Replies {S} answers before after (s ∷ ss) t text = (u : Tone) × (v : Tone) × (reply : List ℕ) × (more : List ℕ) × (next : S)
    × answers before s u reply next × Replies answers next after ss v more × (t ≡ worse u v) × (text ≡ reply ++ more)

-- the replies to these statements were appended
pub record Wrote {S : Type 0} (answers : Rule S) (before after : S) (statements : List (List ℕ)) (t : Tone) (old new : Option (List ℕ)) : Type 0 where
  pub text : List ℕ
  pub replies : Replies answers before after statements t text
  pub moved : Appends old new text

-- a front of replies to these statements was appended
pub record WroteFront {S : Type 0} (answers : Rule S) (before : S) (statements : List (List ℕ)) (old new : Option (List ℕ)) : Type 0 where
  pub after : S
  pub tone : Tone
  pub text : List ℕ
  pub replies : Replies answers before after statements tone text
  pub moved : AppendsFront old new text

-- one statement was answered, or a front of a reply was written
abbrev pub Answered : {S E : Type 0} → (Tone → List ℕ → S → Type 0) → S → Option (List ℕ) → Option (List ℕ) → Result Tone E → Type 0
Answered says after old new (Ok t) = (text : List ℕ) × says t text after × Appends old new text
Answered {S} says after old new (Err _) = (t : Tone) × (text : List ℕ) × (later : S) × says t text later × AppendsFront old new text
