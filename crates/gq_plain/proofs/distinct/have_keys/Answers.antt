use Rattle.std.proofs.Common.{◌<◌, ◌∙◌, arith, length, sym}
use Rattle.std.proofs.lemmas.Option.{get_or_from_slice_get}
use Rattle.gq_base.proofs.ListLaws.{not_not, not_yet}
use Rattle.gq_plain.proofs.DistinctSteps.{keyed_once, keyed_twice, no_key}
use Rattle.gq_plain.proofs.distinct.have_keys.Goals as goal

pub returns-in_default : goal.returns-in_default
returns-in_default c =
    let is = sym (get_or_from_slice_get c.args.rows.now c.loop-number.number c.row.result.now c.row.result.now c.row.ensures) in
    let more : c.loop-number.number < length c.args.rows.now = omega arith in
    sym (no_key _ _ _ c.loop-number.invariant more c.row.result.now is (sym c.in_default.ensures))

pub returns-then-not-is_new : goal.returns-then-not-is_new
returns-then-not-is_new c =
    let is = sym (get_or_from_slice_get c.args.rows.now c.loop-number.number c.row.result.now c.row.result.now c.row.ensures) in
    let more : c.loop-number.number < length c.args.rows.now = omega arith in
    let there = not_not _ (sym c.if-not-is_new.true ∙ c.in_ok-is_new.ensures.added) in
    sym (keyed_twice _ _ _ c.loop-number.invariant more c.row.result.now is c.in-Some.key (sym c.in-Some.ensures) there)

pub loop-number-preserved : goal.loop-number-preserved
loop-number-preserved c =
    let is = sym (get_or_from_slice_get c.args.rows.now c.loop-number.number c.row.result.now c.row.result.now c.row.ensures) in
    let more : c.loop-number.number < length c.args.rows.now = omega arith in
    let absent = not_yet _ (sym c.if-not-is_new.false ∙ c.in_ok-is_new.ensures.added) in
    keyed_once _ _ _ c.loop-number.invariant more c.row.result.now is c.in-Some.key (sym c.in-Some.ensures) _ absent c.in_ok-is_new.ensures.updates.0
