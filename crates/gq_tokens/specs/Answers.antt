-- What the functions that take tokens answer, by the readers.
use Rattle.std.specs.Prelude.{◌≡◌, List, Result, Ok, Err}
use Rattle.gq_lexer.specs.declared.token.Token.{Token}
use Rattle.gq_tokens.specs.Readers.{Deep, Done, Out, Syntax}
use Rattle.gq_tokens.specs.declared.tokens.Stop.{Stop}
use Rattle.gq_tokens.specs.declared.tokens.Stop.TheVariants as stop

-- a function answers what a reader does, and leaves the same tokens; want of memory is free
abbrev pub Reads : {A : Type 0} → Out A → Result A Stop → List Token → Type 0
Reads out (Ok x) left = out ≡ (Done x, left)
Reads out (Err stop.Syntax) left = out ≡ (Syntax, left)
Reads out (Err stop.Depth) left = out ≡ (Deep, left)
Reads out (Err stop.Memory) left = Unit {0}

-- a function answers a value that it was given, and beside it what a reader does
abbrev pub ReadsBeside : {A B : Type 0} → A → Out B → Result (A × B) Stop → List Token → Type 0
ReadsBeside first out (Ok both) left = (both.0 ≡ first) × (out ≡ (Done both.1, left))
ReadsBeside first out (Err stop.Syntax) left = out ≡ (Syntax, left)
ReadsBeside first out (Err stop.Depth) left = out ≡ (Deep, left)
ReadsBeside first out (Err stop.Memory) left = Unit {0}
