use Rattle.std.proofs.Common.{◌≡◌, Some, length, sym, ap, arith, w64}
use Rattle.std.proofs.Math.Facts.{to_z_pos}
use Rattle.gq_fields.proofs.FieldLaws.{all_so_far, few_so_far, numeral_is}
use Rattle.gq_fields.proofs.field.read_digits.Goals as goal

pub overflow_mul-number : goal.overflow_mul-number
overflow_mul-number c =
    let low = few_so_far c.loop-digit.digit-index c.loop-digit.number c.loop-digit.invariant.2 (omega (arith, c.requires, c.loop-digit-test.true)) in
    record { fits = omega (arith, low) }

pub overflow_add-number : goal.overflow_add-number
overflow_add-number c =
    let low = few_so_far c.loop-digit.digit-index c.loop-digit.number c.loop-digit.invariant.2 (omega (arith, c.requires, c.loop-digit-test.true)) in
    record { fits = omega (arith, low, c.from.type_inv) }

pub overflow_cast-result : goal.overflow_cast-result
overflow_cast-result c =
    let low = all_so_far c.loop-digit.digit-index c.loop-digit.number c.loop-digit.invariant.2 (omega (arith, c.requires, c.loop-digit.auto.digit-index-end)) in
    record { sfits = low }

pub returns-clause-value : goal.returns-clause-value
returns-clause-value c =
    let i : c.loop-digit.digit-index ≡ length c.args.digits.now = omega (arith, c.loop-digit.auto.digit-index-end, c.loop-digit-test.false) in
    let low = all_so_far c.loop-digit.digit-index c.loop-digit.number c.loop-digit.invariant.2 (omega (arith, c.requires, c.loop-digit.auto.digit-index-end)) in
    let is = numeral_is c.args.digits.now c.loop-digit.number (sym c.if-is_empty.ensures) (rw (← i) c.loop-digit.invariant.0) (rw (← i) c.loop-digit.invariant.1) in
    rw (is.0, is.1) (ap Some (to_z_pos w64 low))

pub returns-clause-few : goal.returns-clause-few
returns-clause-few c = λ numeral.
    let i : c.loop-digit.digit-index ≡ length c.args.digits.now = omega (arith, c.loop-digit.auto.digit-index-end, c.loop-digit-test.false) in
    let low = all_so_far c.loop-digit.digit-index c.loop-digit.number c.loop-digit.invariant.2 (omega (arith, c.requires, c.loop-digit.auto.digit-index-end)) in
    let is = numeral_is c.args.digits.now c.loop-digit.number (sym c.if-is_empty.ensures) (rw (← i) c.loop-digit.invariant.0) (rw (← i) c.loop-digit.invariant.1) in
    omega (arith, low, is.1)
