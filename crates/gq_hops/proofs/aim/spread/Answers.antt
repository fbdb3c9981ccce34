use Rattle.std.proofs.Common.{◌≡◌, ◌∙◌, true, sym, ap}
use Rattle.gq_marks.specs.Marking.{is_marked}
use Rattle.gq_plan.specs.Assignments.{is_node}
use Rattle.gq_hops.specs.steps.Hops.{IsMetNext}
use Rattle.gq_hops.proofs.Spreading.{inside_more, spread_then, under_next}
use Rattle.gq_hops.proofs.aim.spread.Goals as goal

pub returns-then-not-put-clause-spread : goal.returns-then-not-put-clause-spread
returns-then-not-put-clause-spread c = spread_then c.args.mark c.requires.mark c.args.marks.now c.loop-met.marks c.put.new.self c.loop-met.invariant.spread c.put.ensures.spread

pub loop-met-preserved : goal.loop-met-preserved
loop-met-preserved c =
    let f = c.args.back.now in
    let m = c.in-Some.met in
    let next : IsMetNext f c.loop-met.level c.next_met.new.level m = c.in-Some.ensures in
    let there : is_node f.graph.now m.node ≡ true = ap (is_node f.graph.now) (sym next.is.node) ∙ next.first.there in
    let marked : is_marked c.put.new.self next.hop.node ≡ true = ap (is_marked c.put.new.self) next.is.node ∙ c.put.ensures.stands c.if-not-put.false in
    record {
      level = next.first.level;
      spread = spread_then c.args.mark c.requires.mark c.args.marks.now c.loop-met.marks c.put.new.self c.loop-met.invariant.spread c.put.ensures.spread;
      inside = inside_more f.graph.now m.node c.loop-met.marks.reached c.put.new.self.reached there c.loop-met.invariant.inside c.put.ensures.reached;
      under = under_next f c.args.node c.args.mark c.loop-met.marks c.put.new.self c.loop-met.level c.next_met.new.level next.hop c.loop-met.invariant.under next.first c.put.ensures.spread marked;
    }
