use Rattle.std.proofs.Common.{◌≡◌, drop, max}
use Rattle.gq_plan.specs.Shapes.{last_of}
use Rattle.gq_plan.proofs.shaping.last_of.Given as goal

abbrev pub invariant-loop-group : goal.invariant-loop-group
invariant-loop-group l = max l.last (last_of (drop l.group-index l.groups)) ≡ last_of l.groups
