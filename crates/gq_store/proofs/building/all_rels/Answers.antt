use Rattle.std.proofs.Common.{List, ap, ◌∙◌, arith}
use Rattle.std.specs.Prelude.{slice_get}
use Rattle.gq_base.specs.declared.cell.PlainRel.{PlainRel}
use Rattle.gq_store.proofs.Keeping.{rest_less, tables_more}
use Rattle.gq_store.proofs.Linking.{linked_more}
use Rattle.gq_store.proofs.building.all_rels.Goals as goal

-- the relationships of the next table are still there
pub keep_rels-requires-clause-rels : goal.keep_rels-requires-clause-rels
keep_rels-requires-clause-rels c =
    c.loop-rel.invariant.3.each c.loop-rel.rel (omega arith) ∙ ap (λ (l : List (List PlainRel)). slice_get l c.loop-rel.rel) c.requires.rels

pub loop-rel-preserved : goal.loop-rel-preserved
loop-rel-preserved c =
    let g = c.args.of.now.value in
    let rel = c.loop-rel.rel in
    let (below, linked, catalog, rest) = c.loop-rel.invariant in (
      rw c.in_ok-push-2.ensures.items (tables_more _ _ _ rel c.loop-rel.all.items c.in_ok-next.field-0.cells below c.in_ok-next.ensures.cells),
      rw c.in_ok-push.ensures.items (linked_more rel g c.loop-rel.links.items c.in_ok-next.field-0.links linked c.in_ok-next.ensures.linked),
      c.set_rel_rows.ensures.catalog ∙ catalog,
      rw c.set_rel_rows.ensures.rels (rest_less rel c.args.plain.now.rels c.loop-rel.plain.rels c.new.result rest),
    )
