use Rattle.std.proofs.Common.{◌∙◌, arith}
use Rattle.gq_lexer.proofs.Digits.{digits_next, value_step}
use Rattle.gq_lexer.proofs.number.read_digits.Goals as goal

pub loop-size-preserved : goal.loop-size-preserved
loop-size-preserved c = (
  digits_next c.args.base c.args.rest.now c.loop-size.size c.index-rest-size.result c.loop-size-test.true c.index-rest-size.is c.in-Some.ensures.value.0 c.loop-size.invariant.0,
  value_step _ c.args.base c.args.rest.now c.loop-size.size c.index-rest-size.result _ _ _ _ _ (omega arith) c.loop-size-test.true c.index-rest-size.is c.loop-size.invariant.1
      c.from.ensures (c.from-in-loop-size.ensures ∙ c.in-Some.ensures.value.1) c.saturating_mul.ensures c.saturating_add-value.ensures,
)
