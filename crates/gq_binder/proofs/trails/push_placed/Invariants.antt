use Rattle.std.proofs.Common.{◌≡◌, ◌++◌, map}
use Rattle.gq_bound.specs.steps.Parts.{placed_part}
use Rattle.gq_binder.proofs.trails.push_placed.Given as goal

abbrev pub invariant-loop-part : goal.invariant-loop-part
invariant-loop-part l = l.all ++ map (placed_part l.order) l.part-iterator.rest.items ≡ l.fn.all ++ map (placed_part l.order) l.fn.parts
