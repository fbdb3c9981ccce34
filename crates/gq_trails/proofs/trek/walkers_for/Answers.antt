use Rattle.std.proofs.Common.{◌≡◌, ◌∙◌, ◌<◌, ◌+◌, ◌++◌, ◌∷◌, [], ℕ, List, length, sym, ap, subst, arith}
use Rattle.std.proofs.lemmas.List.{get_or_default, length-append}
use Rattle.gq_plan.specs.declared.TrailPart.{TrailPart}
use Rattle.gq_hops.specs.Walking.{Walking}
use Rattle.gq_trails.specs.steps.Journeys.{HaveCourses, IsWalkerFor, no_part, part_at}
use Rattle.gq_trails.proofs.Journeying.{courses_push}
use Rattle.gq_trails.proofs.trek.walkers_for.Goals as goal

pub parts-preserved : goal.parts-preserved
parts-preserved c =
    let g = c.args.graph.now in
    let parts : List TrailPart = c.args.parts.now in
    let n : ℕ = c.parts.part-index in
    let ws : List Walking = c.parts.walkers.items in
    let w : Walking = c.in_ok-walker_for.field-0 in
    let pushed : c.push.new.self.items ≡ ws ++ w ∷ [] = c.in_ok-push.ensures.items in
    let low : n < length parts = omega (arith, c.parts-test.true) in
    let part_is : c.part-item.result ≡ part_at parts n = c.part-item.is ∙ get_or_default parts n c.part-item.result no_part low in
    let many = length-append ws (w ∷ []) in
    let before = c.parts.invariant.count in
    record {
      count = ap length pushed ∙ omega (arith, many, before);
      courses = subst (λ us. HaveCourses g parts us (n + 1)) (sym pushed)
          (courses_push g parts ws w n before c.parts.invariant.courses (subst (λ p. IsWalkerFor g p w) part_is c.in_ok-walker_for.ensures));
    }
