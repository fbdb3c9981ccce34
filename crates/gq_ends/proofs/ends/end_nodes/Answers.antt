use Rattle.std.proofs.Common.{length, ap, ◌∙◌, arith}
use Rattle.gq_base.specs.Catalogs.{Tables}
use Rattle.gq_ends.proofs.Adding.{ends_found, tables_next}
use Rattle.gq_ends.proofs.ends.end_nodes.Goals as goal

pub tables-preserved : goal.tables-preserved
tables-preserved c =
    tables_next c.args.graph.now c.args.part.now c.tables.table c.tables.ends.items c.add_labelled.new.ends.items c.tables.invariant (c.in_ok-add_labelled.ensures c.if-not-branch.false)

pub returns : goal.returns
returns c =
    let many = c.node_tables-table-end.ensures ∙ ap (λ (t : Tables). length t.nodes) c.catalog.ensures.value in
    ends_found c.args.graph.now c.args.part.now c.tables.table c.tables.ends.items c.catalog.ensures.valid (omega (arith, many, c.tables-test.false)) c.tables.invariant
