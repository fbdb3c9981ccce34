use Rattle.std.proofs.Common.{◌≡◌, ◌∙◌, ◌<◌, ◌∷◌, ℕ, [], List, get_or, true, take, length, sym, ap, subst, arith}
use Rattle.std.specs.Prelude.{not, nat_eq}
use Rattle.std.specs.List.{AllByRecursion}
use Rattle.std.proofs.lemmas.List.{take_all, take_more}
use Rattle.gq_base.specs.declared.NodeId.{NodeId}
use Rattle.gq_marks.specs.Marking.{IsSpread, Marking, is_marked}
use Rattle.gq_plan.proofs.Each.{each_append, each_then}
use Rattle.gq_hops.proofs.Spreading.{inside_at, inside_more, spread_then}
use Rattle.gq_hops.proofs.aim.put_each.Goals as goal

pub nodes-preserved : goal.nodes-preserved
nodes-preserved c =
    let nodes : List NodeId = c.args.nodes.now in
    let at : ℕ = c.nodes.place in
    let none : NodeId = record { table = 0; row = 0 } in
    let m : Marking = c.nodes.marks in
    let new : Marking = c.put.new.self in
    let inv = c.nodes.invariant in
    let step : IsSpread 0 m new = c.put.ensures.spread in
    let low : at < length nodes = omega (arith, c.nodes-test.true) in
    record {
      most = omega (arith, c.nodes-test.true, inv.most);
      spread = spread_then 0 (omega arith) c.args.marks.now m new inv.spread step;
      inside = λ g all before. inside_more g (get_or nodes at none) m.reached new.reached (inside_at g nodes at none low all) (inv.inside g all before) c.put.ensures.reached;
      all = subst (AllByRecursion (λ n. is_marked new n ≡ true)) (sym (take_more nodes at none low))
          (each_append (λ n. is_marked new n ≡ true) (take at nodes) (get_or nodes at none ∷ [])
          (each_then (λ n. is_marked m n ≡ true) (λ n. is_marked new n ≡ true) (λ n marked. ap (λ k. not (nat_eq k 255)) (step.stays n marked) ∙ marked) (take at nodes) inv.all)
          (c.put.ensures.stands c.if-not-put.false, tt));
    }

pub returns-then-not-put-clause-spread : goal.returns-then-not-put-clause-spread
returns-then-not-put-clause-spread c = spread_then 0 (omega arith) c.args.marks.now c.nodes.marks c.put.new.self c.nodes.invariant.spread c.put.ensures.spread

pub returns-then-not-put-clause-inside : goal.returns-then-not-put-clause-inside
returns-then-not-put-clause-inside c g all before =
    let nodes : List NodeId = c.args.nodes.now in
    let none : NodeId = record { table = 0; row = 0 } in
    let low : c.nodes.place < length nodes = omega (arith, c.nodes-test.true) in
    inside_more g (get_or nodes c.nodes.place none) c.nodes.marks.reached c.put.new.self.reached (inside_at g nodes c.nodes.place none low all) (c.nodes.invariant.inside g all before) c.put.ensures.reached

pub returns-clause-all : goal.returns-clause-all
returns-clause-all c told =
    subst (AllByRecursion (λ n. is_marked c.nodes.marks n ≡ true)) (take_all c.nodes.place c.args.nodes.now (omega (arith, c.nodes-test.false))) c.nodes.invariant.all
