use Rattle.std.proofs.Common.{◌<◌, ◌∙◌, arith, length, sym}
use Rattle.std.proofs.lemmas.Option.{get_or_from_slice_get}
use Rattle.gq_base.specs.Valid.{are_nodes}
use Rattle.gq_plain.proofs.ZipSteps.{one_failed, one_passed}
use Rattle.gq_plain.proofs.validity.are_all_nodes.Goals as goal

pub returns-then-not-pass : goal.returns-then-not-pass
returns-then-not-pass c =
    let more : c.loop-table.table < length c.args.catalog.now.nodes = omega arith in
    let here = sym (get_or_from_slice_get c.args.catalog.now.nodes c.loop-table.table c.node_table.result.now c.node_table.result.now (sym c.node_table.ensures)) in
    let fails = sym c.in_ok-pass.ensures ∙ c.if-not-pass.true in
    sym (one_failed are_nodes _ _ _ c.loop-table.invariant more c.node_table.result.now here c.index-nodes-table.result c.index-nodes-table.is fails)

pub loop-table-preserved : goal.loop-table-preserved
loop-table-preserved c =
    let more : c.loop-table.table < length c.args.catalog.now.nodes = omega arith in
    let here = sym (get_or_from_slice_get c.args.catalog.now.nodes c.loop-table.table c.node_table.result.now c.node_table.result.now (sym c.node_table.ensures)) in
    let passes = sym c.in_ok-pass.ensures ∙ c.if-not-pass.false in
    one_passed are_nodes _ _ _ c.loop-table.invariant more c.node_table.result.now here c.index-nodes-table.result c.index-nodes-table.is passes
