-- The refusals of a text that has no tokens.
use Rattle.gq_lexer.specs.declared.token.LexRefusal.{LexRefusal}
use Rattle.gq_lexer.specs.declared.token.LexRefusal.TheVariants as lexer
use Rattle.gq_syntax.specs.declared.refusal.SyntaxRefusal.{SyntaxRefusal}
use Rattle.gq_syntax.specs.declared.refusal.SyntaxRefusal.TheVariants as refusal

-- the lexer's refusal, handed on
abbrev pub of_lexer : LexRefusal → SyntaxRefusal
of_lexer (lexer.Lex at) = refusal.Lex at
of_lexer lexer.Memory = refusal.Memory
