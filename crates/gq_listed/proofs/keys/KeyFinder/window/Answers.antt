use Rattle.std.proofs.Common.{◌≡◌, ◌∙◌, Some, ap, false, length, refl, subst, sym, true}
use Rattle.std.specs.Prelude.{slice_get, slice_index}
use Rattle.std.proofs.lemmas.Option.{slice_get_read}
use Rattle.gq_bits.specs.Places.{is_marked}
use Rattle.gq_group.specs.Chunks.{group_of}
use Rattle.gq_listed.proofs.Windowed.{none_in}
use Rattle.gq_listed.proofs.keys.KeyFinder.window.Goals as goal

pub returns-in-Span : goal.returns-in-Span
returns-in-Span c = λ ps selected out.
    let at : group_of c.args.chunk.now c.in-Item.group ≡ Some c.in-Some.here.now = ap (λ l. slice_get l c.in-Item.group) (sym c.groups.ensures)
    ∙ slice_get_read c.groups.result.now (length c.groups.result.now) c.in-Item.group c.in-Some.here.now refl c.in-Some.ensures.lookup.3.0 c.in-Some.ensures.lookup.1 in
    none_in c.args.chunk.now ps c.in-Item.group c.in-Some.here.now c.new.result.left c.requires selected at
    (λ k low on. c.new.ensures.left k low (subst (λ m. is_marked m k ≡ true) (sym c.marks.ensures) on))
    (subst (λ i. is_marked c.new.result.left (slice_index ps i) ≡ false) c.new.ensures.group out)
