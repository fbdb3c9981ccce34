use Rattle.std.proofs.Common.{◌∙◌, ◌+◌, ◌*◌, ◌&&◌, length, refl, sym, ap}
use Rattle.std.proofs.lemmas.Option.{slice_get_past, slice_get_read}
use Rattle.gq_bits.specs.Places.{is_marked}
use Rattle.gq_bits.specs.declared.TheConstants.{VECTOR}
use Rattle.gq_masks.specs.Masks.{may_have}
use Rattle.gq_masks.proofs.Marking.{kept_all, kept_some}
use Rattle.gq_masks.proofs.marked.Marked.keep.Goals as goal

pub returns-in-None : goal.returns-in-None
returns-in-None c = λ k low.
    kept_all c.deref.result.now c.args.piece k (is_marked c.args.marks.now k) (sym (slice_get_past c.deref.result.now c.args.piece c.in-None.ensures.lookup.3)) low
    ∙ ap (λ p. is_marked c.args.marks.now k && may_have p (VECTOR * c.args.piece + k)) c.deref.ensures.value

pub returns-in-Some : goal.returns-in-Some
returns-in-Some c = λ k low.
    let there = slice_get_read c.deref.result.now (length c.deref.result.now) c.args.piece c.in-Some.own.now refl c.in-Some.ensures.lookup.3.0 c.in-Some.ensures.lookup.1 in
    c.and.ensures.both k
    ∙ ap (λ b. is_marked c.args.marks.now k && b) (kept_some c.deref.result.now c.args.piece k c.in-Some.own.now (sym there) low ∙ ap (λ p. may_have p (VECTOR * c.args.piece + k)) c.deref.ensures.value)
