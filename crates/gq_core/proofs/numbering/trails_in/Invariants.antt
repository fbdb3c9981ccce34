use Rattle.std.proofs.Common.{◌≡◌, take, map}
use Rattle.gq_scopes.specs.Renumbering.{placed_in}
use Rattle.gq_law_reaches.specs.Reaches.{TrailPattern}
use Rattle.gq_core.proofs.numbering.trails_in.Given as goal

abbrev pub invariant-loop-trail : goal.invariant-loop-trail
invariant-loop-trail l = l.copies ≡ map (λ (t : TrailPattern). record t { left = placed_in l.order t.left; right = placed_in l.order t.right }) (take l.trail-index l.trails)
