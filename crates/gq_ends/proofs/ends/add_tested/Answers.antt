use Rattle.std.proofs.Common.{◌≡◌, true, sym, subst, arith}
use Rattle.std.proofs.lemmas.Result.{IfOk-weaker}
use Rattle.std.specs.Prelude.{All}
use Rattle.gq_ends.specs.steps.Adding.{HasRows, HasTable}
use Rattle.gq_ends.specs.steps.Tests.{IsNeeded}
use Rattle.gq_ends.proofs.Adding.{table_added}
use Rattle.gq_ends.proofs.ends.add_tested.Goals as goal

pub add_rows-requires : goal.add_rows-requires
add_rows-requires c =
    let all = subst (All (IsNeeded c.args.graph.now c.args.part.now c.args.table)) (sym c.as_slice.ensures.value) c.in_ok-tests.ensures in
    λ k d less. (let rows = (all k d less).rows in let count = c.node_count-count.ensures in omega (arith, rows, count))

pub returns : goal.returns
returns c =
    let g = c.args.graph.now in
    let p = c.args.part.now in
    let needed = subst (All (IsNeeded g p c.args.table)) (sym c.as_slice.ensures.value) c.in_ok-tests.ensures in
    IfOk-weaker c.add_rows.result
    (λ few. few ≡ true → HasRows c.as_slice.result.now c.args.table 0 c.node_count-count.result c.args.ends.now.items c.add_rows.new.ends.items)
    (λ few. few ≡ true → HasTable g p c.args.table c.args.ends.now.items c.add_rows.new.ends.items)
    (λ few h told. table_added g p c.args.table c.as_slice.result.now c.node_count-count.result c.args.ends.now.items c.add_rows.new.ends.items c.node_count-count.ensures needed (h told))
    c.add_rows.ensures
