use Rattle.std.proofs.Common.{◌≡◌, ◌+◌, ◌-◌, true, subst, sym, arith}
use Rattle.std.proofs.lemmas.Bool.{ltb-true}
use Rattle.gq_bits.specs.Places.{is_marked}
use Rattle.gq_chains.proofs.blocks.has_mark.Goals as goal

pub returns-in-Some-clause-one : goal.returns-in-Some-clause-one
returns-in-Some-clause-one c = λ below.
    (let place = c.in-Some.place in
    let offset = c.args.offset in
    let from = c.in-Some.ensures.found.0 in
    let low = ltb-true place (offset + 64) below in
    let same : offset + (place - offset) ≡ place = omega (arith, from) in
    (place - offset, omega (arith, from, low), subst (λ k. is_marked c.args.marks.now k ≡ true) (sym same) c.in-Some.ensures.found.1))
