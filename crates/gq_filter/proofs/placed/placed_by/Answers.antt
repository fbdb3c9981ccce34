use Rattle.std.proofs.Common.{refl, subst}
use Rattle.gq_filter.specs.steps.Placing.{ArePlaced}
use Rattle.gq_filter.proofs.placed.placed_by.Goals as goal

pub returns : goal.returns
returns c = record {
  test_is = refl;
  feeds_are = refl;
  placed = subst (λ x. ArePlaced x c.args.placement.places c.args.feeds.now) (c.is_rel.ensures c.if-not-is_rel.false) c.requires;
}
