use Rattle.std.proofs.Common.{◌<◌, length, List, sym, subst, arith}
use Rattle.std.specs.List.{Contains}
use Rattle.std.proofs.lemmas.List.Elements.{Contains-get_or}
use Rattle.gq_plan.specs.declared.bound.NamedExpr.{NamedExpr}
use Rattle.gq_ends.proofs.Missing.{none_is_fit}
use Rattle.gq_ends.proofs.end_test.none_fits.Goals as goal

pub returns-then-is_missing : goal.returns-then-is_missing
returns-then-is_missing c told =
    let asked : List NamedExpr = c.as_slice-asked-items.result.now in
    let low : c.tests.asked-index < length asked = omega (arith, c.tests-test.true) in
    let has = subst (λ (ts : List NamedExpr). Contains ts c.asked-item.result) c.as_slice-asked-items.ensures
    (subst (Contains asked) (sym c.asked-item.is) (Contains-get_or asked c.tests.asked-index c.asked-item.result low)) in
    none_is_fit c.args.graph.now c.args.part.now c.args.table c.asked-item.result has (c.is_missing.ensures c.if-is_missing.true)
