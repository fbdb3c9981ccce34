use Rattle.std.proofs.Common.{◌≡◌, None, map, take}
use Rattle.std.specs.Option.{option_copied}
use Rattle.std.specs.Prelude.{slice_index_or}
use Rattle.gq_plan.specs.declared.halves.StepHalf.{StepHalf}
use Rattle.gq_pipe.proofs.ordering.builds_in_order.Given as goal

abbrev pub invariant-loop-half : goal.invariant-loop-half
invariant-loop-half l = map option_copied l.ordered.items ≡ map (λ (q : StepHalf). slice_index_or l.builds q.step None) (take l.half-index l.order)
