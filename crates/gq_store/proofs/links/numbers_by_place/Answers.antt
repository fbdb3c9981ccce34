use Rattle.std.proofs.Common.{ℕ, Option, List, [], ◌∷◌, ◌++◌, length, map, sym, ap, ◌∙◌, arith}
use Rattle.std.specs.List.{range_with_len}
use Rattle.std.proofs.lemmas.List.FromFn.{length-map-range_with_len, map-range_with_len_more}
use Rattle.gq_store.specs.Places.{number_at}
use Rattle.gq_store.proofs.links.numbers_by_place.Goals as goal

pub loop-place-preserved : goal.loop-place-preserved
loop-place-preserved c =
    let f : ℕ → Option ℕ = λ place. number_at c.args.of.now.value c.args.rel place in
    let place = c.loop-place.place in
    c.in_ok-push.ensures.items ∙ ap (λ (l : List (Option ℕ)). l ++ c.number_at.result ∷ []) c.loop-place.invariant ∙ ap (λ (o : Option ℕ). map f (range_with_len 0 place) ++ o ∷ []) c.number_at.ensures
    ∙ sym (map-range_with_len_more f 0 place place (omega arith))

pub returns-clause-few : goal.returns-clause-few
returns-clause-few c =
    let f : ℕ → Option ℕ = λ place. number_at c.args.of.now.value c.args.rel place in
    omega (arith, ap (λ (l : List (Option ℕ)). length l) c.loop-place.invariant, length-map-range_with_len f 0 c.loop-place.place, c.loop-place.auto.place-end, c.place_count-places.type_inv)
