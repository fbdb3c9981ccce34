use Rattle.std.proofs.Common.{◌≡◌, ◌<◌, ◌∙◌, Some, ap, arith, length, sym}
use Rattle.std.specs.Prelude.{slice_get}
use Rattle.gq_base.specs.Catalogs.{Tables, find_field}
use Rattle.gq_store.proofs.Validity.{node_fields_few}
use Rattle.gq_listed.proofs.ByPlace.{reads_node}
use Rattle.gq_listed.proofs.places.node_reader.Goals as goal

pub overflow_cast-result : goal.overflow_cast-result
overflow_cast-result c =
    let g = c.args.graph.now in
    let at = c.in-Some.table in
    let table = c.node_table.result.now in
    let is : slice_get g.catalog.nodes at ≡ Some table = ap (λ (t : Tables). slice_get t.nodes at) (sym c.catalog-catalog.ensures.value) ∙ sym c.node_table.ensures in
    omega (arith, node_fields_few g at table c.catalog-catalog.ensures.valid is, c.in-Some-find_field.ensures.within, ap length c.as_slice.ensures)

pub returns-in-Some-find_field : goal.returns-in-Some-find_field
returns-in-Some-find_field c =
    let g = c.args.graph.now in
    let at = c.in-Some.table in
    let table = c.node_table.result.now in
    let is : slice_get g.catalog.nodes at ≡ Some table = ap (λ (t : Tables). slice_get t.nodes at) (sym c.catalog-catalog.ensures.value) ∙ sym c.node_table.ensures in
    let within : at < length g.catalog.nodes = omega (arith, c.if-table-node_tables.false, c.node_tables.ensures, ap (λ (t : Tables). length t.nodes) c.catalog-catalog.ensures.value) in
    let found = sym (c.in-Some-find_field.ensures.value ∙ ap (λ l. find_field l c.args.name.now) c.as_slice.ensures) in
    reads_node g c.args.name.now (record { variable = c.args.variable; table = at; place = c.in-Some-find_field.place }) table within is found
    (omega (arith, c.in-Some-find_field.ensures.within, ap length c.as_slice.ensures))
