use Rattle.std.proofs.Common.{◌≡◌, ◌+◌, ◌-◌, true}
use Rattle.gq_bits.specs.declared.TheConstants.{VECTOR}
use Rattle.gq_filter.specs.Placed.{Passes, Refuses}
use Rattle.gq_sift.specs.steps.EdgeTests.{StandsWhere}
use Rattle.gq_sift.specs.steps.Parts.{Drops}
use Rattle.gq_sift.proofs.Told.{AllMarked}
use Rattle.gq_sift.proofs.edge_tests.test_each.Given as goal

abbrev pub invariant-places : goal.invariant-places
invariant-places l =
    Drops (λ j. StandsWhere l.fn.graph l.fn.part (Refuses l.fn.test) (l.fn.part.low + j)) l.fn.marks l.marks
    × (l.all ≡ true → AllMarked (λ j. StandsWhere l.fn.graph l.fn.part (Passes l.fn.test) (l.fn.part.low + j)) l.place l.marks) × (l.all ≡ true → l.fn.told ≡ true)

abbrev pub decreases-places : goal.decreases-places
decreases-places l = VECTOR - l.place
