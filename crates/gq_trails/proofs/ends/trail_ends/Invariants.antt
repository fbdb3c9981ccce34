use Rattle.std.proofs.Common.{◌≡◌, map, take}
use Rattle.gq_ends.specs.Ends.{other_end}
use Rattle.gq_trails.proofs.ends.trail_ends.Given as goal

abbrev pub invariant-parts : goal.invariant-parts
invariant-parts l = l.ends.items ≡ map (other_end l.graph) (take l.part-index l.parts)
