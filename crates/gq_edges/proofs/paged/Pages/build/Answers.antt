use Rattle.std.proofs.Common.{◌≡◌, ap, ◌∙◌, sym, length, arith, List, ℕ}
use Rattle.std.specs.List.{concat}
use Rattle.std.proofs.lemmas.List.FromFn.{length-range_with_len}
use Rattle.gq_adj.specs.Adjacent.{lists_of}
use Rattle.gq_edges.specs.Order.{numbers_of}
use Rattle.gq_edges.proofs.Ordered.{order_holds, order_reaches}
use Rattle.gq_edges.proofs.paged.Pages.build.Goals as goal

pub build-requires-clause-one_length : goal.build-requires-clause-one_length
build-requires-clause-one_length c =
    omega (arith, ap length c.as_slice.ensures.value, ap length c.in_ok-all.ensures, length-range_with_len 0 (length c.args.from.now))

pub places_of-requires-clause-inside : goal.places_of-requires-clause-inside
places_of-requires-clause-inside c =
    let from = c.args.from.now in
    let lists : c.in_ok-numbers.numbers.targets ≡ numbers_of c.args.vertices from = c.in_ok-numbers.ensures.lists ∙ ap (lists_of c.args.vertices from) (c.as_slice.ensures.value ∙ c.in_ok-all.ensures) in
    let order : c.all.result.now ≡ concat (numbers_of c.args.vertices from) = c.all.ensures.value ∙ ap concat lists in
    let size : length (concat (numbers_of c.args.vertices from)) ≡ length from = sym (ap (λ (xss : List (List ℕ)). length (concat xss)) lists) ∙ c.in_ok-numbers.ensures.size in
    rw order (order_holds c.args.vertices from size)

pub invariant_of-result : goal.invariant_of-result
invariant_of-result c =
    let from = c.args.from.now in
    let lists : c.in_ok-numbers.numbers.targets ≡ numbers_of c.args.vertices from = c.in_ok-numbers.ensures.lists ∙ ap (lists_of c.args.vertices from) (c.as_slice.ensures.value ∙ c.in_ok-all.ensures) in
    let order : c.all.result.now ≡ concat (numbers_of c.args.vertices from) = c.all.ensures.value ∙ ap concat lists in
    let size : length (concat (numbers_of c.args.vertices from)) ≡ length from = sym (ap (λ (xss : List (List ℕ)). length (concat xss)) lists) ∙ c.in_ok-numbers.ensures.size in
    let places = c.in_ok-places.places in
    let len : length places.items ≡ length (concat (numbers_of c.args.vertices from)) = omega (arith, c.in_ok-places.ensures.len, places.ok.0, ap length order) in
    record {
      few = omega (arith, len, ap length order, c.all.ensures.few);
      len = omega (arith, len, ap length order, ap length c.all.ensures.value);
      placed = rw lists (order_reaches c.args.vertices from places.items c.requires.from_below size len (rw order at c.in_ok-places.ensures.placed));
    }
