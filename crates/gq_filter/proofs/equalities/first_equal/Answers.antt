use Rattle.std.proofs.Common.{◌≡◌, true, sym, subst}
use Rattle.gq_filter.specs.LaneTests.{holds}
use Rattle.gq_filter.proofs.Equal.{all_hold_at}
use Rattle.gq_filter.proofs.equalities.first_equal.Goals as goal

pub returns-in-Some : goal.returns-in-Some
returns-in-Some c = λ cells all.
    c.in-Some.ensures cells
    (subst (λ t. holds cells t ≡ true) (sym c.test-item.is) (all_hold_at (holds cells) c.args.tests.now c.loop-test.test-index c.test-item.result c.loop-test-test.true all))
