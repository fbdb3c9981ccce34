-- The numbers of tokens.
use Rattle.std.specs.Prelude.{◌^◌, ◌<◌}
use Rattle.gq_lexer.specs.declared.token.TokenKind.{TokenKind}
use Rattle.gq_lexer.specs.declared.token.TokenKind.TheVariants as kind

-- an integer is less than 2^63
abbrev pub IntFits : TokenKind → Type 0
IntFits (kind.Int n) = n < 2 ^ 63
IntFits _ = Unit {0}
