use Rattle.std.proofs.Common.{◌∙◌, sym, ap, true≢false}
use Rattle.std.specs.Prelude.{slice_get}
use Rattle.std.specs.List.{list_all}
use Rattle.std.proofs.lemmas.Bool.{and_parts}
use Rattle.gq_base.specs.Catalogs.{has_label}
use Rattle.gq_law_trails.specs.Trails.{fits_end}
use Rattle.gq_ends.proofs.Adding.{table_passed}
use Rattle.gq_ends.proofs.ends.add_labelled.Goals as goal

pub returns-then-not-has_labels : goal.returns-then-not-has_labels
unfolding fits_end
returns-then-not-has_labels c told =
    let g = c.args.graph.now in
    let p = c.args.part.now in
    table_passed g p c.args.table c.args.ends.now.items
    (λ row fits. true≢false (sym (and_parts (list_all (has_label (slice_get g.catalog.nodes c.args.table)) p.labels) _ fits).0 ∙ ap (list_all (has_label (slice_get g.catalog.nodes c.args.table))) (sym c.as_slice.ensures) ∙ sym c.has_labels.ensures ∙ c.if-not-has_labels.true))

pub returns-then-none_fits : goal.returns-then-none_fits
returns-then-none_fits c told = table_passed c.args.graph.now c.args.part.now c.args.table c.args.ends.now.items (c.none_fits.ensures c.if-none_fits.true)
