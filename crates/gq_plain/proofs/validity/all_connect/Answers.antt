use Rattle.std.proofs.Common.{◌∙◌, ap, arith, get_or, sym}
use Rattle.std.specs.Prelude.{◌&&◌}
use Rattle.std.proofs.lemmas.List.Folds.{list_all_at, list_all_more}
use Rattle.std.proofs.lemmas.Option.{get_or_from_slice_get}
use Rattle.gq_base.specs.Rels.{rel_seen}
use Rattle.gq_base.specs.Valid.{is_rel}
use Rattle.gq_plain.proofs.validity.all_connect.Goals as goal

pub returns-then-not-is_rel : goal.returns-then-not-is_rel
returns-then-not-is_rel c =
    let rel = rel_seen c.rel.result in
    let fits = is_rel c.args.fields.now c.args.sources c.args.targets in
    let is = get_or_from_slice_get c.args.rels.now c.loop-number.number rel rel c.rel.ensures in
    sym (list_all_at fits c.args.rels.now c.loop-number.number rel (omega arith) (ap fits is ∙ sym c.is_rel.ensures ∙ c.if-not-is_rel.true))

pub loop-number-preserved : goal.loop-number-preserved
loop-number-preserved c =
    let rel = rel_seen c.rel.result in
    let fits = is_rel c.args.fields.now c.args.sources c.args.targets in
    let is = get_or_from_slice_get c.args.rels.now c.loop-number.number rel rel c.rel.ensures in
    list_all_more fits c.args.rels.now c.loop-number.number rel (omega arith)
    ∙ ap (λ before. before && fits (get_or c.args.rels.now c.loop-number.number rel)) c.loop-number.invariant ∙ ap fits is ∙ sym c.is_rel.ensures ∙ c.if-not-is_rel.false
