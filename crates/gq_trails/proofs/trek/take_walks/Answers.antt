use Rattle.std.proofs.Common.{◌≡◌, ◌∙◌, ◌-◌, ◌<◌, ℕ, get_or, length, ap, sym, arith, length-append}
use Rattle.std.proofs.lemmas.List.{get_or_default, get_or_read}
use Rattle.gq_hops.specs.Walking.{Walking}
use Rattle.gq_plan.specs.declared.TrailPart.{TrailPart}
use Rattle.gq_trails.specs.steps.Journeys.{no_part, no_walk, part_at, walk_at}
use Rattle.gq_trails.proofs.Taking.{all_taken, passed, took}
use Rattle.gq_trails.proofs.trek.take_walks.Goals as goal
use Rattle.gq_trails.proofs.trek.take_walks.Goals.{then-parts-at, else-parts-at}

pub trails-preserved : goal.trails-preserved
trails-preserved c =
    let parts = c.args.parts.now in
    let ws = c.args.walkers.now in
    let back = c.trails.back in
    let low : back < c.args.depth = omega (arith, c.trails-test.true) in
    let at : ℕ = c.args.depth - 1 - back in
    let inside : at < length parts = omega (arith, low, c.requires.low) in
    let here : at < length ws = omega (arith, low, c.requires.many) in
    let one : (part_at parts at).clause ≡ c.index-parts-at.result.clause = ap (λ (p : TrailPart). p.clause) (sym (get_or_read parts at c.index-parts-at.result inside c.index-parts-at.is no_part)) in
    let two : (part_at parts at).clause ≡ (get_or parts at c.index-parts-at.result).clause = ap (λ (p : TrailPart). p.clause) (get_or_default parts at no_part c.index-parts-at.result inside) in
    elim c.if-parts-at.branch [
      | then-parts-at w ↦
          (let elem : w.index-walkers-at.result ≡ walk_at ws at = get_or_read ws at w.index-walkers-at.result here w.index-walkers-at.is no_walk in
          let is : w.index-walkers-at.result.rels ≡ (walk_at ws at).rels = ap (λ (walk : Walking). walk.rels) elem in
          let more = w.taken-is ∙ w.take_walk.ensures.taken in
          record {
            taken = took parts ws c.args.clause c.args.depth back low c.trails.taken _ c.trails.invariant.taken (omega (arith, one, two, w.if-parts-at.true)) c.if-parts-at.taken w.index-walkers-at.result.rels more is;
            few = omega (arith, ap length more, length-append c.trails.taken w.index-walkers-at.result.rels, w.take_walk.ensures.few, c.trails.invariant.few);
          })
      | else-parts-at w ↦
          record {
            taken = passed parts ws c.args.clause c.args.depth back low c.trails.taken _ c.trails.invariant.taken (λ same. w.if-parts-at.false (omega (arith, one, two, same))) c.if-parts-at.taken w.taken-is;
            few = omega (arith, ap length w.taken-is, c.trails.invariant.few);
          }
    ]

pub returns-clause-taken : goal.returns-clause-taken
returns-clause-taken c = all_taken c.args.parts.now c.args.walkers.now c.args.clause (c.args.depth - c.trails.back) c.trails.taken _ (omega (arith, c.trails-test.false)) c.trails.invariant.taken
