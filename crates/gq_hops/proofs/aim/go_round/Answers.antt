use Rattle.std.proofs.Common.{◌≡◌, ◌∙◌, ℕ, suc, ◌+◌, ◌≤◌, length, sym, ap, subst, arith}
use Rattle.std.proofs.lemmas.List.{length-append}
use Rattle.gq_base.specs.Directions.{opposite}
use Rattle.gq_marks.specs.Marking.{IsSpread, Marking}
use Rattle.gq_hops.specs.steps.Aims.{IsAimed}
use Rattle.gq_hops.proofs.Aiming.{aimed_next, aimed_round, aimed_still, bounds_are}
use Rattle.gq_hops.proofs.Spreading.{hits_are, spread_then}
use Rattle.gq_hops.proofs.aim.go_round.Goals as goal

pub returns-then-not-spread-clause-spread : goal.returns-then-not-spread-clause-spread
returns-then-not-spread-clause-spread c =
    let level : ℕ = c.args.level in
    let low = c.requires.few in
    let one : level + 1 ≡ suc level = omega arith in
    let step : IsSpread (suc level) c.nodes.marks c.spread.new.marks = subst (λ k. IsSpread k c.nodes.marks c.spread.new.marks) one c.spread.ensures.spread in
    spread_then (suc level) (omega (arith, low)) c.args.marks.now c.nodes.marks c.spread.new.marks c.nodes.invariant.spread step

pub returns-then-not-spread-clause-bounds : goal.returns-then-not-spread-clause-bounds
returns-then-not-spread-clause-bounds c =
    let f = c.args.back.now in
    let level : ℕ = c.args.level in
    let m : Marking = c.nodes.marks in
    let before = c.nodes.invariant.spread in
    let one : level + 1 ≡ suc level = omega arith in
    let step : IsSpread (suc level) m c.spread.new.marks = subst (λ k. IsSpread k m c.spread.new.marks) one c.spread.ensures.spread in
    let many = ap length before.reached ∙ length-append c.args.marks.now.reached before.more in
    let within : c.nodes.at ≤ length m.reached = omega (arith, many, c.nodes-test.true, c.count-stop.ensures.count) in
    bounds_are f.graph.now f.kind.now (opposite f.way) level c.nodes.at c.spread.new.marks
    (aimed_still f.graph.now f.kind.now (opposite f.way) level c.nodes.at m c.spread.new.marks c.requires.few c.nodes.invariant.aimed step within)
    c.count.ensures.known (step.rest ∙ before.rest ∙ c.requires.rest)

pub nodes-preserved : goal.nodes-preserved
nodes-preserved c =
    let f = c.args.back.now in
    let level : ℕ = c.args.level in
    let low = c.requires.few in
    let m : Marking = c.nodes.marks in
    let one : level + 1 ≡ suc level = omega arith in
    let next : c.nodes.at + 1 ≡ suc c.nodes.at = omega arith in
    let step : IsSpread (suc level) m c.spread.new.marks = subst (λ k. IsSpread k m c.spread.new.marks) one c.spread.ensures.spread in
    record {
      most = omega (arith, c.nodes-test.true);
      spread = spread_then (suc level) (omega (arith, low)) c.args.marks.now m c.spread.new.marks c.nodes.invariant.spread step;
      inside = c.spread.ensures.inside;
      aimed = subst (λ k. IsAimed f.graph.now f.kind.now (opposite f.way) level k c.spread.new.marks) (sym next)
          (aimed_next f.graph.now f.kind.now (opposite f.way) level c.nodes.at m c.spread.new.marks low c.nodes.invariant.aimed step c.reached.result c.reached.ensures
          (hits_are f c.spread.new.marks c.reached.result (c.spread.ensures.hit c.if-not-spread.false)));
    }

pub returns-clause-aimed : goal.returns-clause-aimed
returns-clause-aimed c told =
    let f = c.args.back.now in
    let at : c.nodes.at ≡ length c.args.marks.now.reached = omega (arith, c.nodes.invariant.most, c.nodes-test.false, c.count-stop.ensures.count) in
    aimed_round f.graph.now f.kind.now (opposite f.way) c.args.level c.args.marks.now c.nodes.marks c.nodes.invariant.spread
    (subst (λ k. IsAimed f.graph.now f.kind.now (opposite f.way) c.args.level k c.nodes.marks) at c.nodes.invariant.aimed)

pub returns-clause-bounds : goal.returns-clause-bounds
returns-clause-bounds c =
    let f = c.args.back.now in
    bounds_are f.graph.now f.kind.now (opposite f.way) c.args.level c.nodes.at c.nodes.marks c.nodes.invariant.aimed c.count-2.ensures.known
    (c.nodes.invariant.spread.rest ∙ c.requires.rest)
