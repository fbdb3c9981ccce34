use Rattle.std.proofs.Common.{◌≡◌, take}
use Rattle.gq_lexer.specs.Tokens.{width}
use Rattle.gq_lexer.proofs.scan.width.Given as goal

abbrev pub invariant-loop-c : goal.invariant-loop-c
invariant-loop-c l = l.width ≡ width (take l.c-index l.chars)
