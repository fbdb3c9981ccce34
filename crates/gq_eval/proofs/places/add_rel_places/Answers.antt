use Rattle.std.proofs.Common.{◌≡◌, Some, length, sym, ap, ◌∙◌, arith}
use Rattle.std.specs.Prelude.{slice_get}
use Rattle.gq_base.specs.Catalogs.{Tables, find_field}
use Rattle.gq_eval.specs.steps.Places.{place_byte}
use Rattle.gq_store.proofs.Validity.{rel_fields_few}
use Rattle.gq_eval.proofs.PlaceLemmas.{few_place, table_more}
use Rattle.gq_eval.proofs.places.add_rel_places.Goals as goal

pub place_byte-requires : goal.place_byte-requires
place_byte-requires c =
    let g = c.args.graph.now in
    let table = c.rel_table.result.now in
    let there : slice_get g.catalog.rels c.loop-table.table ≡ Some table = ap (λ (tables : Tables). slice_get tables.rels c.loop-table.table) (sym c.catalog-catalog.ensures.value) ∙ sym c.rel_table.ensures in
    few_place c.find_field-place.result (length c.as_slice.result.now) c.find_field-place.ensures.within
    (omega (arith, rel_fields_few g c.loop-table.table table c.catalog-catalog.ensures.valid there, ap length c.as_slice.ensures))

pub loop-table-preserved : goal.loop-table-preserved
loop-table-preserved c =
    let g = c.args.graph.now in
    let name = c.args.name.now in
    let table = c.rel_table.result.now in
    let there : slice_get g.catalog.rels c.loop-table.table ≡ Some table = ap (λ (tables : Tables). slice_get tables.rels c.loop-table.table) (sym c.catalog-catalog.ensures.value) ∙ sym c.rel_table.ensures in
    table_more (λ t. place_byte (find_field t.fields name)) g.catalog.rels c.loop-table.table table c.loop-table.places c.push.new.self _ c.place_byte.result there
    (c.place_byte.ensures ∙ ap place_byte (c.find_field-place.ensures.value ∙ ap (λ l. find_field l name) c.as_slice.ensures)) c.in_ok-push.ensures.pushed c.loop-table.invariant
