use Rattle.std.proofs.Common.{rules, ◌≡◌, ◌≢◌, ◌<◌, Some, inl, inr, length, sym}
use Rattle.std.specs.Prelude.{slice_get}
use Rattle.gq_base.specs.declared.Kind.TheVariants.{Str}
use Rattle.gq_filter.proofs.RowLanes.{feeds_more}
use Rattle.gq_filter.proofs.row_feeds.add_rel.Goals as goal

pub returns-in_ok-push-in-Int : goal.returns-in_ok-push-in-Int
returns-in_ok-push-in-Int c =
    let g = c.args.graph.now in
    let y = c.args.typed.now in
    let rel = c.in-Some.rel.now in
    let feed = c.in-Some-rel_feed.feed in
    let here : slice_get y.rels c.args.variable ≡ Some rel = sym c.in-Some.ensures.value in
    let there : rel.table < length g.catalog.rels = search rules in
    let other : feed.property.now.kind ≢ Str = λ e. elim c.in-Int.is [ inl i ↦ cc (i, e, c.kind.ensures) | inr f ↦ cc (f, e, c.kind.ensures) ] in
    rw c.in_ok-push-in-Int.ensures.items (feeds_more g y c.args.feeds.now.items feed c.requires (inr (record {
      variable = c.args.variable;
      rel = rel;
      name = c.args.name.now;
      rel_is = here;
      within = there;
      no_text = other;
      is = c.in-Some-rel_feed.ensures.some;
    })))
