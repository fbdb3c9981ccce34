use Rattle.std.proofs.Common.{◌≡◌, ◌≤◌, ◌∙◌, Some, length, refl, sym, ap, subst, arith, inl, inr}
use Rattle.std.specs.Prelude.{slice_get}
use Rattle.std.proofs.lemmas.Bool.{cases_eq}
use Rattle.std.proofs.lemmas.Option.{slice_get_read, slice_get_within}
use Rattle.gq_filter.specs.declared.source.Feed.{Feed}
use Rattle.gq_filter.proofs.recall.have_rows.Goals as goal

pub loop-feed-preserved : goal.loop-feed-preserved
loop-feed-preserved c = λ lane feed below at. elim (cases_eq lane c.loop-feed.feed-index) [
  | inl same ↦
      (let feeds = c.args.feeds.now in
      let item = c.feed-item.result in
      let here : slice_get feeds c.loop-feed.feed-index ≡ Some item = slice_get_read feeds (length feeds) c.loop-feed.feed-index item refl c.loop-feed-test.true c.feed-item.is in
      let found : slice_get feeds c.loop-feed.feed-index ≡ Some feed = ap (slice_get feeds) (sym same) ∙ at in
      let one : item ≡ feed = cc in
      let long = c.len.ensures ∙ ap length c.column.ensures.is in
      let enough = c.if-len-rows.false in
      subst (λ (f : Feed). c.args.rows ≤ length f.property.now.column) one (omega (arith, long, enough)))
  | inr other ↦ c.loop-feed.invariant lane feed (omega (arith, below, other)) at
]

pub returns : goal.returns
returns c = λ on lane feed at. c.loop-feed.invariant lane feed (let low = slice_get_within c.args.feeds.now lane feed at in let high = c.loop-feed-test.false in omega arith) at
