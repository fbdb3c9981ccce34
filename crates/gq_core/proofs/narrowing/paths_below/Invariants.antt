use Rattle.std.proofs.Common.{◌≡◌, take, filter, nat_lt}
use Rattle.gq_plan.specs.declared.PathPart.{PathPart}
use Rattle.gq_core.proofs.narrowing.paths_below.Given as goal

abbrev pub invariant-loop-path : goal.invariant-loop-path
invariant-loop-path l = l.found ≡ filter (λ (x : PathPart). nat_lt x.first l.count) (take l.path-index l.paths)
