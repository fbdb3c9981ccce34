use Rattle.std.proofs.Common.{◌≡◌, ◌+◌, ◌≤◌, length}
use Rattle.std.specs.Prelude.{vec_capacity}
use Rattle.gq_pool.specs.Pool.{spare_of}
use Rattle.gq_pool.specs.Slots.{Holds, all_taken}
use Rattle.gq_pool.proofs.slot_list.take_slots.Given as goal

abbrev pub invariant-loop : goal.invariant-loop
invariant-loop l =
    Holds l.pool l.slots.items × (length l.slots.items ≡ l.counter) × (spare_of l.pool + l.counter ≡ spare_of l.initial.pool)
    × (l.count ≤ vec_capacity l.slots) × (l.pool ≡ all_taken l.initial.pool l.slots.items)
