use Rattle.std.proofs.Common.{◌<◌, length, List, sym, subst, arith}
use Rattle.std.specs.List.{Contains}
use Rattle.std.proofs.lemmas.List.Elements.{Contains-get_or}
use Rattle.gq_plan.specs.declared.bound.NamedExpr.{NamedExpr}
use Rattle.gq_ends.proofs.end_test.tests_in.Goals as goal

pub end_test-requires-clause-asked : goal.end_test-requires-clause-asked
end_test-requires-clause-asked c =
    let asked : List NamedExpr = c.as_slice-asked-items.result.now in
    let low : c.tests.asked-index < length asked = omega (arith, c.tests-test.true) in
    subst (λ (ts : List NamedExpr). Contains ts c.asked-item.result) c.as_slice-asked-items.ensures
    (subst (Contains asked) (sym c.asked-item.is) (Contains-get_or asked c.tests.asked-index c.asked-item.result low))
