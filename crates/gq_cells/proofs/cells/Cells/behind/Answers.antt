use Rattle.std.proofs.Common.{◌∙◌, ◌+◌, ap, length, refl, subst, sym}
use Rattle.std.specs.Prelude.{slice_get}
use Rattle.std.proofs.lemmas.Option.{slice_get_read}
use Rattle.gq_base.specs.Values.{val}
use Rattle.gq_cells.specs.Behind.{IsBehindBar}
use Rattle.gq_cells.specs.Numbers.{IsNumber, Kept, number_val}
use Rattle.gq_cells.proofs.cells.Cells.behind.Goals as goal

pub behind-requires-clause-numbers : goal.behind-requires-clause-numbers
behind-requires-clause-numbers c = λ k low.
    let at = sym (ap (λ (s : Kept). slice_get s.sources c.args.source) c.self.view_is) ∙ ap (λ l. slice_get l c.args.source) (sym c.deref.ensures.value)
    ∙ slice_get_read c.deref.result.now (length c.deref.result.now) c.args.source c.in-Some.source.now refl c.in-Some.ensures.lookup.3.0 c.in-Some.ensures.lookup.1 in
    subst (λ o. IsNumber o (c.args.first + k)) at (c.requires.numbers k low)

pub returns-in-Some : goal.returns-in-Some
returns-in-Some c = λ k on.
    let at = sym (ap (λ (s : Kept). slice_get s.sources c.args.source) c.self.view_is) ∙ ap (λ l. slice_get l c.args.source) (sym c.deref.ensures.value)
    ∙ slice_get_read c.deref.result.now (length c.deref.result.now) c.args.source c.in-Some.source.now refl c.in-Some.ensures.lookup.3.0 c.in-Some.ensures.lookup.1 in
    let h = c.behind.ensures k on in
    (h.0, subst (λ o. IsBehindBar c.args.down (val c.args.bar.now) (number_val o (c.args.first + k))) (sym at) h.1)
