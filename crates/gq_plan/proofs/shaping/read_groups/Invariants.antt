use Rattle.std.proofs.Common.{◌≡◌, map, take}
use Rattle.gq_plan.specs.Shapes.{group_of, places_of}
use Rattle.gq_plan.proofs.shaping.read_groups.Given as goal

abbrev pub invariant-loop-read : goal.invariant-loop-read
invariant-loop-read l = l.groups ≡ map (λ r. group_of (places_of l.places) r.variable) (take l.read-index l.reads)
