use Rattle.std.proofs.Common.{◌≡◌, ◌<◌, length, get_or, sym, ap, ◌∙◌, arith}
use Rattle.std.specs.List.{concat}
use Rattle.std.proofs.lemmas.List.{get_or_default}
use Rattle.gq_edges.proofs.Ordered.{one_place}
use Rattle.gq_edges.proofs.paged.Pages.place_of.Goals as goal

pub returns-clause-only : goal.returns-clause-only
returns-clause-only c = λ place within is.
    let all = c.self.invariant in
    let places = c.self.inside.places.items in
    let order : concat c.self.inside.numbers.targets ≡ concat c.args.self.now = ap concat c.self.view_is in
    let len : length places ≡ length (concat c.args.self.now) = all.len ∙ ap length order in
    let here : c.args.number < length places = omega (arith, len, c.requires) in
    c.index.ensures ∙ get_or_default places c.args.number c.index.result.now 0 here ∙ ap (λ number. get_or places number 0) (sym is)
    ∙ one_place (concat c.args.self.now) places (λ number low. rw (← order) (all.placed number (omega (arith, len, low)))) place within
