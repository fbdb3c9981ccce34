use Rattle.std.proofs.Common.{ℕ, nat_eq, arith, get_or, ap, sym, ◌∙◌}
use Rattle.std.specs.List.{list_any}
use Rattle.std.proofs.lemmas.List.{take_all}
use Rattle.std.proofs.lemmas.List.Folds.{list_any_more}
use Rattle.gq_choices.specs.steps.Narrowing.{with_number}
use Rattle.gq_choices.proofs.number_set.NumberSet.of.Goals as goal

pub loop-number-preserved : goal.loop-number-preserved
loop-number-preserved c =
    let at : ℕ = c.loop-number.number-index in
    c.in_ok-insert.ensures ∙ ap (with_number (get_or c.args.numbers.now at 0)) c.loop-number.invariant
    ∙ (λ i t. sym (list_any_more (λ u. nat_eq u t) c.args.numbers.now at 0 c.loop-number-test.true) i)

pub returns : goal.returns
returns c = c.loop-number.invariant ∙ ap (λ ts t. list_any (λ u. nat_eq u t) ts) (take_all c.loop-number.number-index c.args.numbers.now (omega arith))
