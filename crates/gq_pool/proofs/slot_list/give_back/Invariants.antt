use Rattle.std.proofs.Common.{◌≡◌, ◌+◌, length}
use Rattle.gq_pool.specs.Pool.{spare_of}
use Rattle.gq_pool.specs.Slots.{Holds, all_freed}
use Rattle.gq_pool.proofs.slot_list.give_back.Given as goal

abbrev pub invariant-loop-slot : goal.invariant-loop-slot
invariant-loop-slot l = Holds l.pool l.slots.items × (spare_of l.pool + length l.slots.items ≡ spare_of l.initial.pool + length l.initial.slots.items)
    × (all_freed l.pool l.slots.items ≡ all_freed l.initial.pool l.initial.slots.items)

abbrev pub decreases-loop-slot : goal.decreases-loop-slot
decreases-loop-slot l = length l.slots.items
