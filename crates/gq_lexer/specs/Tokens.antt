-- The tokens of a text (openCypher 9, where this project's profile does not say otherwise).
use Rattle.std.specs.Prelude.{◌≡◌, ℕ, zero, suc, ◌+◌, ◌-◌, ◌<◌, ◌≤◌, List, [], ◌∷◌, ◌++◌, length, take, if◌then◌else◌, Result, Ok, Err}
use Rattle.std.specs.Str.{chars, encode_utf8_all, is_utf8}
use Rattle.std.specs.Str.Lossy.{utf8_valid_len}
use Rattle.std.specs.declared.option.Option.{Option}
use Rattle.std.specs.declared.option.Option.TheVariants.{Some, None}
use Rattle.gq_lexer.specs.Lexemes.{lexeme}
use Rattle.gq_lexer.specs.declared.lexeme.Lexeme.{Lexeme}
use Rattle.gq_lexer.specs.declared.token.LexRefusal.{LexRefusal}
use Rattle.gq_lexer.specs.declared.token.LexRefusal.TheVariants.{Lex, Memory}
use Rattle.gq_ast.specs.declared.span.Span.{Span}
use Rattle.gq_lexer.specs.declared.token.Token.{Token}
use Rattle.gq_lexer.specs.declared.token.TokenKind.{TokenKind}

-- the tokens of a text, or the place of the first byte of the first lexeme that fails
abbrev pub Lexed : Type 0
Lexed = Result (List Token) ℕ

-- how many bytes characters take
abbrev pub width : List ℕ → ℕ
width cs = length (encode_utf8_all cs)

-- the token of a lexeme that is one
abbrev pub tokens_of : Option TokenKind → Span → List Token
tokens_of None span = []
tokens_of (Some kind) span = record { kind = kind; span = span } ∷ []

-- tokens and then those of the rest
abbrev pub prefixed : List Token → Lexed → Lexed
prefixed tokens (Ok more) = Ok (tokens ++ more)
prefixed tokens (Err at) = Err at

-- what a lexeme at this byte gives, and then the rest
abbrev pub then_from : Option Lexeme → ℕ → List ℕ → (ℕ → ℕ → Lexed) → Lexed
then_from None at cs rest = Err at
then_from (Some l) at cs rest = let end = at + width (take l.size cs) in prefixed (tokens_of l.kind (record { start = at; end = end })) (rest (l.size - 1) end)

-- the tokens from where so many characters of the last lexeme are still to come, which ends at this byte
abbrev pub lexed_behind : ℕ → ℕ → List ℕ → Lexed
lexed_behind left at [] = Ok []
lexed_behind (suc left) at (c ∷ cs) = lexed_behind left at cs
lexed_behind zero at (c ∷ cs) = then_from (lexeme (c ∷ cs)) at (c ∷ cs) (λ left end. lexed_behind left end cs)

-- the lexemes of these characters from left to right, without white space and comments
unfoldable pub lexed_from : ℕ → List ℕ → Lexed
lexed_from at cs = lexed_behind 0 at cs

-- the tokens of a text: of its characters, where it is UTF-8; else it fails at the first byte that belongs to no character
unfoldable pub lexed : List ℕ → Lexed
lexed text = if is_utf8 text then lexed_from 0 (chars text) else Err (utf8_valid_len text)

-- what `lex` answers: these are the tokens, or it fails there; want of memory is free
abbrev pub Answers : Lexed → Result (List Token) LexRefusal → Type 0
Answers outcome (Ok tokens) = outcome ≡ Ok tokens
Answers outcome (Err (Lex at)) = outcome ≡ Err at
Answers outcome (Err Memory) = Unit {0}

-- the spans of tokens stand one behind another, none of them empty, from one byte to another
abbrev pub InOrder : ℕ → ℕ → List Token → Type 0
InOrder from to [] = from ≤ to
InOrder from to (t ∷ ts) = (from ≤ t.span.start) × (t.span.start < t.span.end) × InOrder t.span.end to ts
