use Rattle.std.proofs.Common.{ap, arith, map}
use Rattle.std.proofs.lemmas.List.{length-map}
use Rattle.gq_base.specs.Values.{val}
use Rattle.gq_classes.specs.declared.level.Level.{Level}
use Rattle.gq_classes.specs.steps.Levels.{keys_of}
use Rattle.gq_classes.proofs.Leading.{ends, goes_on_from, no_levels, stops_from}
use Rattle.gq_classes.proofs.classes.+number_behind.Goals as goal

pub returns-in_default : goal.returns-in_default
returns-in_default t c = λ fronts can. ends _ fronts _ _ _ (no_levels _ (omega (arith, c.in_default.ensures.cases, length-map c.args.levels.now (λ (l : Level). l.keys.keys)))) can

pub returns-in_err-number : goal.returns-in_err-number
returns-in_err-number t c = stops_from _ _ _ _ _ _ _ _ c.from_residual.result (ap keys_of c.in-Some.ensures.cases.0) c.in_err-number.ensures c.from_residual.ensures.0

pub returns : goal.returns
returns t c =
    goes_on_from _ _ _ _ _ _ _ _ _ _ _ _ _ c.number_behind.result (ap keys_of c.in-Some.ensures.cases.0) (ap (map val) c.in-Some-split_first.ensures.cases.0)
    c.in_ok-number.ensures c.number_behind.ensures
