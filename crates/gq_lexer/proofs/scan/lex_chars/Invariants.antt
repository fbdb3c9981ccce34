use Rattle.std.proofs.Common.{◌≡◌, ◌-◌, ◌≤◌, length, take, drop}
use Rattle.gq_lexer.specs.Tokens.{InOrder, lexed_from, prefixed, width}
use Rattle.gq_lexer.proofs.scan.lex_chars.Given as goal

abbrev pub invariant-lexemes : goal.invariant-lexemes
invariant-lexemes l = record {
  within : l.place ≤ length l.chars;
  bytes : l.at ≡ width (take l.place l.chars);
  outcome : lexed_from 0 l.chars ≡ prefixed l.tokens (lexed_from l.at (drop l.place l.chars));
  order : InOrder 0 l.at l.tokens;
}

abbrev pub decreases-lexemes : goal.decreases-lexemes
decreases-lexemes l = length l.chars - l.place
