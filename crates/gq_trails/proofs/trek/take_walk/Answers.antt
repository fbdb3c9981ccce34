use Rattle.std.proofs.Common.{◌≡◌, ◌++◌, ◌∷◌, [], get_or, take, append_assoc, sym, ap, ◌∙◌}
use Rattle.std.proofs.lemmas.List.{take_more}
use Rattle.std.proofs.lemmas.Option.{get_or_from_slice_get, slice_get_within}
use Rattle.gq_trails.proofs.trek.take_walk.Goals as goal

pub rels-preserved : goal.rels-preserved
rels-preserved c =
    let rels = c.args.walker.now.rels in
    let place = c.rels.place in
    let rel = c.rel.result in
    let low = slice_get_within rels place rel c.rel.ensures in
    let here : get_or rels place rel ≡ rel = get_or_from_slice_get rels place rel rel c.rel.ensures in
    c.push.ensures
    ∙ ap (λ l. l ++ rel ∷ []) c.rels.invariant
    ∙ append_assoc c.args.taken.now (take place rels) (rel ∷ [])
    ∙ ap (λ l. c.args.taken.now ++ l) (sym (take_more rels place rel low ∙ ap (λ r. take place rels ++ r ∷ []) here))
