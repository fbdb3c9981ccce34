use Rattle.std.proofs.Common.{length, ap, sym, ◌∙◌, subst, arith}
use Rattle.std.proofs.lemmas.List.{length_push}
use Rattle.gq_pool.specs.Slots.{Holds, all_freed}
use Rattle.gq_pool.proofs.Holding.{holds_less, holds_last, freed_last}
use Rattle.gq_pool.proofs.slot_list.give_back.Goals as goal

pub give-requires : goal.give-requires
give-requires c = holds_last c.loop-slot.pool c.pop.new.self.items c.in-Some.slot (subst (Holds c.loop-slot.pool) c.in-Some.ensures.items c.loop-slot.invariant.0)

pub loop-slot-preserved : goal.loop-slot-preserved
loop-slot-preserved c =
    let items = c.in-Some.ensures.items in
    let all = c.loop-slot.invariant.1 in
    let one_more = c.give.ensures.spare in (
      holds_less c.loop-slot.pool c.give.new.self c.pop.new.self.items c.in-Some.slot (subst (Holds c.loop-slot.pool) items c.loop-slot.invariant.0) c.give.ensures.others,
      omega (arith, all, one_more, ap length items, length_push c.pop.new.self.items c.in-Some.slot),
      ap (λ p. all_freed p c.pop.new.self.items) c.give.ensures.gives
          ∙ sym (freed_last c.loop-slot.pool c.pop.new.self.items c.in-Some.slot)
          ∙ ap (all_freed c.loop-slot.pool) (sym items) ∙ c.loop-slot.invariant.2,
    )
