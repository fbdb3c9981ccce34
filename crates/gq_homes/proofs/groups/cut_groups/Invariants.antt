use Rattle.std.proofs.Common.{◌-◌}
use Rattle.gq_steps.specs.Moves.{run_of}
use Rattle.gq_homes.specs.steps.Cutting.{IsCutting}
use Rattle.gq_homes.proofs.groups.cut_groups.Given as goal

abbrev pub invariant-loop-end : goal.invariant-loop-end
invariant-loop-end l = IsCutting (run_of l.plan_run) l.flat l.groups.items l.first l.end

abbrev pub decreases-loop-end : goal.decreases-loop-end
decreases-loop-end l = l.count - l.end
