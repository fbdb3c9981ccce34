use Rattle.std.proofs.Common.{◌≡◌, ◌≤◌, ◌^◌, Some, sym, ap, subst, ◌∙◌, arith, length}
use Rattle.std.proofs.lemmas.Result.{err_from_is_err_and}
use Rattle.std.specs.Prelude.{slice_get, slice_set}
use Rattle.gq_base.specs.Catalogs.{Tables}
use Rattle.gq_loader.specs.steps.Effects.{NamesOnly}
use Rattle.gq_loader.proofs.Effecting.{stops_reads}
use Rattle.gq_loader.proofs.Keeping.{nodes_valid, others_keep}
use Rattle.gq_loader.proofs.Naming.{named_in, node_file, nodes_keep, stops_table}
use Rattle.gq_loader.proofs.tables.take_nodes.Goals as goal

pub returns-in_err-bytes-clause-reads : goal.returns-in_err-bytes-clause-reads
returns-in_err-bytes-clause-reads g c =
    let p = err_from_is_err_and c.from_residual.result c.from_residual.ensures.1 in
    stops_reads _ _ _ c.read_table_file.result c.from_residual.result c.in_err-bytes.field-0.0
    c.in_err-bytes.was (cc (p.1, p.2)) c.read_table_file.ensures.reads

pub returns-in_err-bytes-clause-named : goal.returns-in_err-bytes-clause-named
returns-in_err-bytes-clause-named g c =
    let k = c.args.loading.now.graph.catalog in
    let t = c.node_table.result.now in
    let p = err_from_is_err_and c.from_residual.result c.from_residual.ensures.1 in
    let is : slice_get k.nodes c.args.number ≡ Some t =
    sym (c.node_table.ensures ∙ ap (λ (k : Tables). slice_get k.nodes c.args.number)
    c.catalog.ensures.value) in
    stops_table k c.read_table_file.result c.from_residual.result c.in_err-bytes.field-0.0
    c.in_err-bytes.was (cc (p.1, p.2))
    (named_in k t.file c.read_table_file.result (node_file k c.args.number t is)
    (subst (λ file. NamesOnly file c.read_table_file.result) c.as_str-file.ensures.bytes c.read_table_file.ensures.named))

pub returns-clause-valid : goal.returns-clause-valid
returns-clause-valid g c =
    let old = c.args.loading.now.graph in
    let new = c.set_node_rows.new.self in
    let read = c.in-Ok.read in
    let good = c.in-Ok.ensures in
    let few : length read.rows ≤ 2 ^ 24 = omega (arith, good.few, c.requires.within.nodes) in
    nodes_valid old new c.args.number read.fields read.rows
    (c.set_node_rows.ensures.catalog ∙ c.set_node_fields.ensures.catalog)
    (c.set_node_rows.ensures.nodes ∙ ap (λ l. slice_set l c.args.number read.rows)
    c.set_node_fields.ensures.nodes)
    (c.set_node_rows.ensures.rels ∙ c.set_node_fields.ensures.rels) c.requires.valid
    c.requires.number c.requires.unread few good.valid.fields good.valid.rows good.valid.keys

pub returns-clause-others : goal.returns-clause-others
returns-clause-others g c =
    let read = c.in-Ok.read in
    others_keep c.args.loading.now.graph c.set_node_rows.new.self c.args.number read.rows
    (c.set_node_rows.ensures.nodes ∙ ap (λ l. slice_set l c.args.number read.rows)
    c.set_node_fields.ensures.nodes)

pub returns-clause-files : goal.returns-clause-files
returns-clause-files g c =
    nodes_keep c.args.loading.now.graph.catalog c.set_node_rows.new.self.catalog c.args.number c.in-Ok.read.fields
    (c.set_node_rows.ensures.catalog ∙ c.set_node_fields.ensures.catalog)
