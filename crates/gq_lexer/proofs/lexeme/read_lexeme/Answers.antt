use Rattle.gq_lexer.proofs.Words.{word_sizes, word_some}
use Rattle.gq_lexer.proofs.lexeme.read_lexeme.Goals as goal

pub returns-then-is_word_start-clause-size : goal.returns-then-is_word_start-clause-size
returns-then-is_word_start-clause-size c =
    word_sizes c.read_word.result c.args.rest.now c.read_word.ensures.value c.read_word.ensures.size (word_some c.args.rest.now _ c.in-Some.ensures.value c.if-is_word_start.ensures)
