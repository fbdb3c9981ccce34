use Rattle.std.proofs.Common.{◌≡◌, ℕ, ◌-◌, ◌≤◌, [], length, drop}
use Rattle.gq_lexer.specs.Tokens.{lexed_from, prefixed}
use Rattle.gq_lexer.proofs.blank.are_blank.Given as goal

abbrev pub invariant-lexemes : goal.invariant-lexemes
invariant-lexemes l = record {
  within : l.place ≤ length l.chars;
  skipped : (at : ℕ) × (lexed_from 0 l.chars ≡ prefixed [] (lexed_from at (drop l.place l.chars)));
}

abbrev pub decreases-lexemes : goal.decreases-lexemes
decreases-lexemes l = length l.chars - l.place
