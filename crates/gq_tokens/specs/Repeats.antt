-- Function values that a repetition calls, by the readers that they stand for.
use Rattle.std.specs.Prelude.{List, Result}
use denote.Ref.{MutBor}
use Rattle.gq_lexer.specs.declared.token.Token.{Token}
use Rattle.gq_tokens.specs.Answers.{Reads}
use Rattle.gq_tokens.specs.Readers.{Reader}
use Rattle.gq_tokens.specs.declared.tokens.Stop.{Stop}

-- the tokens that are left, before a call and after it
abbrev pub Place : Type 0
Place = MutBor (List Token)

-- each call reads what the reader does behind a token that leads it in
abbrev pub Items : {S B : Type 0} → (S → Reader B) → (Place → S → Result B Stop → Place → Type 0)
    → Type 0
Items {S} {B} read post =
    (old new : Place) (s : S) (found : Result B Stop) → post old s found new
    → Reads (read s old.now) found new.now

-- each call reads what the reader does
abbrev pub Parts : {B : Type 0} → Reader B → (Place → Result B Stop → Place → Type 0) → Type 0
Parts {B} read post =
    (old new : Place) (found : Result B Stop) → post old found new
    → Reads (read old.now) found new.now
