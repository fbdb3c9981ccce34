use Rattle.std.proofs.Common.{◌∙◌, ◌++◌, ◌∷◌, [], ap, sym, append_assoc, arith}
use Rattle.std.proofs.lemmas.Grind.{common_steps}
use Rattle.std.specs.List.{range_with_len}
use Rattle.gq_scopes.proofs.RangeLemmas.{range_more}
use Rattle.gq_binder.proofs.optionals.push_numbers.Goals as goal

pub loop-preserved : goal.loop-preserved
loop-preserved c = record {
  at = grind (arith, common_steps);
  numbers =
      c.in_ok-push.ensures.pushed
      ∙ ap (λ l. l ++ c.loop.at ∷ []) c.loop.invariant.numbers
      ∙ append_assoc c.args.numbers.now (range_with_len c.args.start c.loop.counter) (c.loop.at ∷ [])
      ∙ ap (λ l. c.args.numbers.now ++ l) (grind (arith, common_steps, range_more, c.loop.invariant.at));
}
