use Rattle.std.proofs.Common.{◌≡◌, ◌∙◌, ℕ, ◌+◌, ◌<◌, List, length, take, set, get_or, sym, ap, arith}
use Rattle.std.proofs.lemmas.List.{length-set, length-take-le, take_more}
use Rattle.gq_group.specs.declared.home.RelHome.TheVariants.{Kept, Nowhere}
use Rattle.gq_homes.specs.steps.Housing.{set_numbered}
use Rattle.gq_homes.proofs.Brought.{numbered_push}
use Rattle.gq_homes.proofs.homes.house_rels.Goals as goal

pub loop-place-preserved : goal.loop-place-preserved
loop-place-preserved c =
    let xs : List ℕ = c.args.build.now.rels in
    let i : ℕ = c.loop-place.place in
    let g : ℕ = c.args.group in
    let below = c.loop-place-test.true in
    let width = c.kept_rels-place-end.ensures.width in
    let low : i < length xs = omega (arith, below, width) in
    let at : 0 + length (take i xs) ≡ i = omega (arith, length-take-le i xs (omega (arith, low))) in
    record {
      many = ap length c.set.ensures ∙ length-set _ _ _ ∙ c.loop-place.invariant.many;
      written =
          c.set.ensures
          ∙ ap (λ l. set l (get_or c.rels-rels.result.now i 0) (Kept g i)) c.loop-place.invariant.written
          ∙ ap (λ l. set (set_numbered (Kept g) 0 (take i xs) c.args.homes.now) (get_or l i 0) (Kept g i)) c.rels-rels.ensures
          ∙ ap (λ n. set (set_numbered (Kept g) 0 (take i xs) c.args.homes.now) (get_or xs i 0) (Kept g n)) (sym at)
          ∙ sym (numbered_push (Kept g) Nowhere 0 (take i xs) (get_or xs i 0) c.args.homes.now)
          ∙ ap (λ l. set_numbered (Kept g) 0 l c.args.homes.now) (sym (take_more xs i 0 low));
    }
