use Rattle.std.proofs.Common.{◌-◌}
use Rattle.gq_steps.specs.Moves.{run_of}
use Rattle.gq_chains.proofs.Sifting.{IsSifting}
use Rattle.gq_sift.proofs.keeping.sift_among.Given as goal

abbrev pub invariant-places : goal.invariant-places
invariant-places l = IsSifting (run_of l.fn.plan_run) l.group l.first l.count l.fn.row l.place l.row l.marks

abbrev pub decreases-places : goal.decreases-places
decreases-places l = l.count - l.place
