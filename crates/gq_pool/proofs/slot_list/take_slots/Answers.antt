use Rattle.std.proofs.Common.{◌∙◌, ◌+◌, length, refl, sym, ap, subst, arith}
use Rattle.std.specs.Prelude.{vec_capacity}
use Rattle.std.proofs.lemmas.List.{length_push}
use Rattle.gq_pool.specs.Pool.{Pool, spare_of, taken}
use Rattle.gq_pool.specs.Slots.{Holds, all_taken}
use Rattle.gq_pool.proofs.Holding.{holds_more, taken_more}
use Rattle.gq_pool.proofs.slot_list.take_slots.Goals as goal
use Rattle.gq_pool.proofs.slot_list.take_slots.Goals.{in-Some+in-Ok, in-Some+in-Err, in-None}

pub loop-preserved : goal.loop-preserved
loop-preserved c =
    let more = c.loop-test.true in
    let many = c.loop.invariant.1 in
    let spare = c.loop.invariant.2 in
    let wide = c.loop.invariant.3 in
    let taken_so = c.loop.invariant.4 in
    let room = c.requires.room in
    elim c.match-take.branch [
      | in-Some+in-Ok w ↦
          (let items = ap (λ v. v.items) w.slots-is ∙ w.in-Ok.ensures.items in
          let one_less = w.in-Some.ensures.spare in
          let no_less = w.in-Ok.ensures.capacity in (
            subst (λ (p : Pool). Holds p c.match-take.slots.items) (sym w.pool-is)
                (subst (Holds c.take.new.self) (sym items)
                (holds_more c.loop.pool c.take.new.self c.loop.slots.items w.in-Some.slot c.loop.invariant.0 w.in-Some.ensures.was_free w.in-Some.ensures.is_out w.in-Some.ensures.others)),
            ap length items ∙ length_push c.loop.slots.items w.in-Some.slot ∙ ap (λ n. n + 1) many,
            omega (arith, one_less, spare, ap spare_of w.pool-is),
            omega (arith, wide, no_less, ap vec_capacity w.slots-is),
            w.pool-is ∙ w.in-Some.ensures.takes ∙ ap (λ p. taken p w.in-Some.slot) taken_so ∙ sym (taken_more _ c.loop.slots.items w.in-Some.slot) ∙ ap (all_taken _) (sym items),
          ))
      | in-Some+in-Err w ↦ (let full = w.in-Err.ensures.full in absurd (omega (arith, full, wide, more, many, c.loop.slots.ok.0)))
      | in-None w ↦ (let none = w.in-None.ensures.none.0 refl in absurd (omega (arith, none, spare, more, room)))
    ]
