use Rattle.std.proofs.Common.{◌≡◌, ◌∙◌, ℕ, suc, ◌+◌, nat_eq, not, true, length, sym, ap, subst, arith}
use Rattle.std.proofs.lemmas.List.{length-append}
use Rattle.gq_base.specs.Directions.{opposite}
use Rattle.gq_marks.specs.Marking.{IsSpread, Marking, bound_of, is_marked, mark_at}
use Rattle.gq_plan.proofs.Each.{each_of, each_then}
use Rattle.gq_hops.specs.steps.Aims.{AreInside, IsAimed}
use Rattle.gq_hops.proofs.Aiming.{aimed_first, aimed_rest, bounds_are, bounds_closed, bounds_first, bounds_zero, mark_first, no_bounds}
use Rattle.gq_hops.proofs.aim.aim_at.Goals as goal

pub returns-then-not-put_each-clause-bounds : goal.returns-then-not-put_each-clause-bounds
returns-then-not-put_each-clause-bounds c =
    let f = c.args.back.now in
    no_bounds f.graph.now f.kind.now (opposite f.way) c.put_each.new.marks
    (bounds_first f.graph.now f.kind.now (opposite f.way) c.clear.new.self c.put_each.new.marks c.clear.ensures.none c.put_each.ensures.spread c.clear.ensures.rest)

pub returns-then-not-put_each-clause-ends : goal.returns-then-not-put_each-clause-ends
returns-then-not-put_each-clause-ends c =
    let f = c.args.back.now in
    each_of (λ n. bound_of c.put_each.new.marks n ≡ 0)
    (bounds_first f.graph.now f.kind.now (opposite f.way) c.clear.new.self c.put_each.new.marks c.clear.ensures.none c.put_each.ensures.spread c.clear.ensures.rest) c.args.ends.now

pub rounds-init : goal.rounds-init
rounds-init c =
    let f = c.args.back.now in
    let g = f.graph.now in
    let m : Marking = c.put_each.new.marks in
    let first : Marking = c.set_rest.new.self in
    let is : first ≡ record m { rest = 1 } = c.set_rest.ensures in
    let reached = ap (λ (k : Marking). k.reached) is in
    record {
      most = omega arith;
      low = omega arith;
      rest = ap (λ (k : Marking). k.rest) is;
      inside = subst (AreInside g) (sym reached) (c.put_each.ensures.inside g c.requires.inside (subst (AreInside g) (sym c.clear.ensures.reached) tt));
      aimed = subst (λ (k : Marking). IsAimed g f.kind.now (opposite f.way) 0 0 k) (sym is)
          (aimed_rest g f.kind.now (opposite f.way) 0 0 1 m (aimed_first g f.kind.now (opposite f.way) c.clear.new.self m c.clear.ensures.none c.put_each.ensures.spread c.clear.ensures.reached));
      ends = each_then (λ n. is_marked m n ≡ true) (λ n. mark_at first.sheets n ≡ 0)
          (λ n marked. ap (λ (k : Marking). mark_at k.sheets n) is ∙ mark_first g f.kind.now (opposite f.way) c.clear.new.self m c.clear.ensures.none c.put_each.ensures.spread n marked)
          c.args.ends.now (c.put_each.ensures.all c.if-not-put_each.false);
    }

pub rounds-preserved : goal.rounds-preserved
rounds-preserved c =
    let f = c.args.back.now in
    let g = f.graph.now in
    let level : ℕ = c.rounds.level in
    let m : Marking = c.rounds.marks in
    let new : Marking = c.go_round.new.marks in
    let last : Marking = c.set_rest-in-rounds.new.self in
    let s : IsSpread (suc level) m new = c.go_round.ensures.spread in
    let is : last ≡ record new { rest = level + 2 } = c.set_rest-in-rounds.ensures in
    let one : level + 1 ≡ suc level = omega arith in
    let two : level + 2 ≡ suc (level + 1) = omega arith in
    let stop : c.count-stop.result ≡ length m.reached = c.count-stop.ensures.count in
    let reached = ap (λ (k : Marking). k.reached) is in
    let many = ap length reached ∙ ap length s.reached ∙ length-append m.reached s.more in
    record {
      most = omega (arith, c.rounds-test.true);
      low = omega (arith, stop, many);
      rest = ap (λ (k : Marking). k.rest) is ∙ two;
      inside = subst (AreInside g) (sym reached) c.go_round.ensures.inside;
      aimed = subst (λ k. IsAimed g f.kind.now (opposite f.way) k c.count-stop.result last) (sym one)
          (subst (λ i. IsAimed g f.kind.now (opposite f.way) (suc level) i last) (sym stop)
          (subst (λ (k : Marking). IsAimed g f.kind.now (opposite f.way) (suc level) (length m.reached) k) (sym is)
          (aimed_rest g f.kind.now (opposite f.way) (suc level) (length m.reached) (level + 2) new (c.go_round.ensures.aimed c.if-not-go_round.false))));
      ends = each_then (λ n. mark_at m.sheets n ≡ 0) (λ n. mark_at last.sheets n ≡ 0)
          (λ n zero. ap (λ (k : Marking). mark_at k.sheets n) is ∙ s.stays n (ap (λ k. not (nat_eq k 255)) zero) ∙ zero) c.args.ends.now c.rounds.invariant.ends;
    }

pub returns-clause-bounds : goal.returns-clause-bounds
returns-clause-bounds c =
    let f = c.args.back.now in
    bounds_are f.graph.now f.kind.now (opposite f.way) c.rounds.level c.rounds.from c.rounds.marks c.rounds.invariant.aimed c.count-2.ensures.known c.rounds.invariant.rest

pub returns-then-count-stop-clause-bounds : goal.returns-then-count-stop-clause-bounds
returns-then-count-stop-clause-bounds c =
    let f = c.args.back.now in
    let g = f.graph.now in
    let level : ℕ = c.rounds.level in
    let m : Marking = c.rounds.marks in
    let new : Marking = c.go_round.new.marks in
    let last : Marking = c.set_rest-then-count-stop.new.self in
    let is : last ≡ record new { rest = 255 } = c.set_rest-then-count-stop.ensures in
    let rest = ap (λ (k : Marking). k.rest) is in
    let many = ap length (ap (λ (k : Marking). k.reached) is) in
    let same : length m.reached ≡ length last.reached = omega (arith, many, c.if-count-stop.true, c.count.ensures.count, c.count-stop.ensures.count) in
    let few = c.requires.few in
    let low = c.rounds-test.true in
    bounds_closed g f.kind.now (opposite f.way) (suc level) last
    (subst (λ i. IsAimed g f.kind.now (opposite f.way) (suc level) i last) same
    (subst (λ (k : Marking). IsAimed g f.kind.now (opposite f.way) (suc level) (length m.reached) k) (sym is)
    (aimed_rest g f.kind.now (opposite f.way) (suc level) (length m.reached) 255 new (c.go_round.ensures.aimed c.if-not-go_round.false))))
    c.count-known.ensures.known (omega (arith, rest, few, low))

pub returns-clause-ends : goal.returns-clause-ends
returns-clause-ends c = bounds_zero c.rounds.marks c.args.ends.now c.rounds.invariant.ends

pub returns-then-count-stop-clause-ends : goal.returns-then-count-stop-clause-ends
returns-then-count-stop-clause-ends c =
    let level : ℕ = c.rounds.level in
    let m : Marking = c.rounds.marks in
    let new : Marking = c.go_round.new.marks in
    let last : Marking = c.set_rest-then-count-stop.new.self in
    let is : last ≡ record new { rest = 255 } = c.set_rest-then-count-stop.ensures in
    let s : IsSpread (suc level) m new = c.go_round.ensures.spread in
    bounds_zero last c.args.ends.now
    (each_then (λ n. mark_at m.sheets n ≡ 0) (λ n. mark_at last.sheets n ≡ 0)
    (λ n zero. ap (λ (k : Marking). mark_at k.sheets n) is ∙ s.stays n (ap (λ k. not (nat_eq k 255)) zero) ∙ zero) c.args.ends.now c.rounds.invariant.ends)

pub returns-then-not-go_round-clause-ends : goal.returns-then-not-go_round-clause-ends
returns-then-not-go_round-clause-ends c =
    let level : ℕ = c.rounds.level in
    let m : Marking = c.rounds.marks in
    let new : Marking = c.go_round.new.marks in
    let s : IsSpread (suc level) m new = c.go_round.ensures.spread in
    bounds_zero new c.args.ends.now
    (each_then (λ n. mark_at m.sheets n ≡ 0) (λ n. mark_at new.sheets n ≡ 0)
    (λ n zero. s.stays n (ap (λ k. not (nat_eq k 255)) zero) ∙ zero) c.args.ends.now c.rounds.invariant.ends)
