use Rattle.std.proofs.Common.{◌≡◌, true}
use Rattle.gq_steps.specs.Moves.{run_of}
use Rattle.gq_steps.specs.declared.cut.Cut.TheVariants as cut
use Rattle.gq_chains.specs.Among.{IsAmong}
use Rattle.gq_sift.proofs.Told.{AreTold}
use Rattle.gq_sift.proofs.edge_tests.test_part.Given as goal

abbrev pub invariant-loop-depth : goal.invariant-loop-depth
invariant-loop-depth l =
    IsAmong (run_of l.fn.plan_run) l.fn.group l.fn.first l.fn.count l.fn.row l.marks × AreTold (run_of l.fn.plan_run) l.fn.group l.fn.follow l.fn.first l.fn.count l.fn.row l.depth l.told l.marks × (l.told ≡ true → l.fn.group.cut ≡ cut.Told)
