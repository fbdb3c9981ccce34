use Rattle.std.proofs.Common.{◌≡◌, ◌+◌, take, arith}
use Rattle.gq_lexer.specs.Tokens.{width}
use Rattle.gq_lexer.proofs.Widths.{width_front, width_next}
use Rattle.gq_lexer.proofs.scan.width.Goals as goal

pub overflow_add-width : goal.overflow_add-width
overflow_add-width c =
    let next = width_next c.args.chars.now c.loop-c.c-index c.c-item.result c.loop-c-test.true c.c-item.is in
    omega (arith, next, width_front c.args.chars.now (c.loop-c.c-index + 1), c.requires, c.loop-c.invariant, c.len_utf8.ensures.len)

pub loop-c-preserved : goal.loop-c-preserved
loop-c-preserved c =
    let next = width_next c.args.chars.now c.loop-c.c-index c.c-item.result c.loop-c-test.true c.c-item.is in
    let more : c.loop-c.width + c.len_utf8.result ≡ width (take (c.loop-c.c-index + 1) c.args.chars.now) = omega (arith, next, c.loop-c.invariant, c.len_utf8.ensures.len) in
    more
