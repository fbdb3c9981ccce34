use Rattle.std.proofs.Common.{◌≡◌, take, map}
use Rattle.gq_scopes.specs.Renumbering.{placed_in}
use Rattle.gq_plan.specs.declared.PathPart.{PathPart}
use Rattle.gq_core.proofs.numbering.paths_in.Given as goal

abbrev pub invariant-loop-path : goal.invariant-loop-path
invariant-loop-path l = l.copies ≡ map (λ (x : PathPart). record x { first = placed_in l.order x.first }) (take l.path-index l.paths)
