use Rattle.std.proofs.Common.{subst}
use Rattle.std.specs.Prelude.{IfSome}
use Rattle.gq_filter.specs.steps.Placing.{IsPlacementOf}
use Rattle.gq_filter.proofs.placed.placed_test.Goals as goal

pub placed_by-requires : goal.placed_by-requires
placed_by-requires c = subst (λ o. IfSome o (IsPlacementOf c.args.feeds.now)) c.in-Some.is c.requires
