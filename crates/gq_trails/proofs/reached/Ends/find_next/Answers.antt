use Rattle.std.proofs.Common.{◌∙◌, drop, sym, ap}
use Rattle.gq_hops.specs.Reaching.{Reaching}
use Rattle.gq_law_ends.specs.Reaching.{rows_at}
use Rattle.gq_trails.proofs.Arriving.{before_next, ends_next, fewer_next, goes_next, none_first, owed_next, same_next}
use Rattle.gq_trails.proofs.reached.Ends.find_next.Goals as goal

-- ---- an end that may be one

pub returns-then-arrives-clause-goes : goal.returns-then-arrives-clause-goes
returns-then-arrives-clause-goes c =
    goes_next c.ends.invariant.ends (sym c.in-Some.is ∙ c.next.ensures.first) c.next.ensures.rest c.arrives.ensures.row c.arrives.ensures.same
    c.args.self.now c.ends.invariant.same c.ends.invariant.before c.ends.invariant.owed c.ends.invariant.fewer (sym c.if-arrives.true ∙ c.arrives.ensures.may)

pub returns-then-arrives-clause-ends : goal.returns-then-arrives-clause-ends
returns-then-arrives-clause-ends c = ends_next c.ends.invariant.ends (sym c.in-Some.is ∙ c.next.ensures.first) c.next.ensures.rest c.arrives.ensures.row c.arrives.ensures.same

pub returns-then-arrives-clause-same : goal.returns-then-arrives-clause-same
returns-then-arrives-clause-same c = same_next c.ends.invariant.ends (sym c.in-Some.is ∙ c.next.ensures.first) c.next.ensures.rest c.arrives.ensures.row c.arrives.ensures.same c.args.self.now c.ends.invariant.same

-- ---- one that may not

pub ends-preserved : goal.ends-preserved
ends-preserved c = record {
  ends = ends_next c.ends.invariant.ends (sym c.in-Some.is ∙ c.next.ensures.first) c.next.ensures.rest c.arrives.ensures.row c.arrives.ensures.same;
  same = same_next c.ends.invariant.ends (sym c.in-Some.is ∙ c.next.ensures.first) c.next.ensures.rest c.arrives.ensures.row c.arrives.ensures.same c.args.self.now c.ends.invariant.same;
  before = before_next c.ends.invariant.ends (sym c.in-Some.is ∙ c.next.ensures.first) c.next.ensures.rest c.arrives.ensures.row c.arrives.ensures.same
      c.args.self.now c.ends.invariant.same c.ends.invariant.before c.ends.invariant.owed c.ends.invariant.fewer;
  owed = owed_next c.ends.invariant.ends (sym c.in-Some.is ∙ c.next.ensures.first) c.next.ensures.rest c.arrives.ensures.row c.arrives.ensures.same
      c.args.self.now c.ends.invariant.same c.ends.invariant.before c.ends.invariant.owed c.ends.invariant.fewer (sym c.if-arrives.false ∙ c.arrives.ensures.may);
  fewer = fewer_next c.ends.invariant.ends (sym c.in-Some.is ∙ c.next.ensures.first) c.next.ensures.rest c.arrives.ensures.row c.arrives.ensures.same
      c.args.self.now c.ends.invariant.same c.ends.invariant.before c.ends.invariant.owed c.ends.invariant.fewer;
}

-- ---- none

pub returns-clause-goes : goal.returns-clause-goes
returns-clause-goes c =
    let e = c.ends.self in
    let inv = c.ends.invariant in
    let empty = none_first e.reacher.owed (sym c.in_default.is ∙ c.next.ensures.first) in
    record {
      before = inv.before;
      next = λ on. absurd (cc on);
      end = λ on. absurd (cc on);
      fewer = λ on. absurd (cc on);
      none = λ _ a seen. inv.owed a seen ∙ ap (rows_at e.graph.now e.part.now a) empty;
      over = λ _. ap (λ (r : Reaching). r.owed) c.next.ensures.rest ∙ ap (drop 1) empty;
    }
