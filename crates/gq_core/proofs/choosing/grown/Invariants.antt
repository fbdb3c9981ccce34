use Rattle.std.proofs.Common.{◌≡◌, drop}
use Rattle.gq_law_reaches.specs.Core.{grown}
use Rattle.gq_core.proofs.choosing.grown.Given as goal

abbrev pub invariant-loop-trail : goal.invariant-loop-trail
invariant-loop-trail l = grown l.nodes.items l.bound.items (drop l.trail-index l.trails) ≡ grown l.first l.first l.trails
