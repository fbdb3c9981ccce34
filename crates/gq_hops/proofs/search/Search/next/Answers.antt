use Rattle.std.proofs.Common.{◌≡◌, ◌≢◌, ◌<◌, ◌≤◌, ◌+◌, ◌-◌, nat_eq, nat_le, nat_lt, false, true, ap, ap₂, suc, sym, ◌∙◌, subst, arith}
use Rattle.std.proofs.lemmas.Bool.{and_parts}
use Rattle.std.proofs.lemmas.Bool.Decides.{nat_tests}
use Rattle.gq_base.specs.declared.NodeId.{NodeId}
use Rattle.gq_plan.specs.Assignments.{is_node}
use Rattle.gq_hops.specs.steps.Searches.{IsEnd, IsOpen, IsSeen, IsSpent, kept_by, owed_by, run_of, with_level}
use Rattle.gq_hops.specs.declared.search.Search.{Search}
use Rattle.gq_hops.proofs.Searching.{at_end, kept_first, kept_longer, kept_none, kept_passed, kept_same, less_longer, less_mid, less_passed, less_up, next_longer, open_longer, open_mid, open_passed, open_up, owed_far, owed_mid, owed_up, stands_is}
use Rattle.gq_hops.proofs.Weights.{weight}
use Rattle.gq_hops.proofs.search.Search.next.Goals as goal

pub returns-then-may_stop : goal.returns-then-may_stop
returns-then-may_stop c =
    let r = c.args.run.now in
    let s = c.loop-met.self in
    let new = c.take.new.self in
    let seen : IsSeen r s c.try_next.new.self c.in-Some.met = c.in-Some.ensures in
    let unused = sym c.if-not-is_used.true ∙ c.is_used.ensures seen.hop seen.is in
    let both = and_parts (nat_le r.low new.depth) (nat_eq ((run_of r).bounds new.last) 0) (sym c.may_stop.ensures ∙ c.if-may_stop.true) in
    let enough = both.0 in
    let next = next_longer r s c.try_next.new.self c.in-Some.met c.loop-met.invariant.open_at seen c.requires.tables unused new c.take.ensures (grind (arith, nat_tests, enough)) in
    record {
      open_at = next.open_at;
      next = c.loop-met.invariant.owed ∙ kept_first (run_of r) s new next both.1;
      ends = next.ends;
      there = next.there;
    }

pub loop-met-smaller-else-may_stop : goal.loop-met-smaller-else-may_stop
loop-met-smaller-else-may_stop c =
    let seen : IsSeen c.args.run.now c.loop-met.self c.try_next.new.self c.in-Some.met = c.in-Some.ensures in
    less_longer c.args.run.now c.loop-met.self c.try_next.new.self c.in-Some.met c.loop-met.invariant.open_at seen c.requires.tables
    (sym c.if-not-is_used.true ∙ c.is_used.ensures seen.hop seen.is) c.take.new.self c.take.ensures

pub loop-met-preserved-else-may_stop : goal.loop-met-preserved-else-may_stop
loop-met-preserved-else-may_stop c =
    let r = c.args.run.now in
    let s = c.loop-met.self in
    let mid = c.try_next.new.self in
    let seen : IsSeen r s mid c.in-Some.met = c.in-Some.ensures in
    let open_at = c.loop-met.invariant.open_at in
    let unused = sym c.if-not-is_used.true ∙ c.is_used.ensures seen.hop seen.is in
    let ends = sym c.may_stop.ensures ∙ c.if-may_stop.false in
    record {
      open_at = open_longer r s mid c.in-Some.met open_at seen c.requires.tables unused c.take.new.self c.take.ensures;
      owed = c.loop-met.invariant.owed ∙ kept_longer r s mid c.in-Some.met open_at seen c.requires.tables unused c.take.new.self c.take.ensures ends;
    }

pub pass_over-requires-clause-open : goal.pass_over-requires-clause-open
pass_over-requires-clause-open c =
    let r = c.args.run.now in
    let s = c.loop-met.self in
    let seen : IsSeen r s c.try_next.new.self c.in-Some.met = c.in-Some.ensures in
    let t = seen.taken in
    subst (IsOpen (run_of r)) (sym t.is) (open_mid r s c.loop-met.invariant.open_at t.low t.level seen.hop t.first)

pub loop-met-smaller-else-leads_on : goal.loop-met-smaller-else-leads_on
loop-met-smaller-else-leads_on c =
    let r = c.args.run.now in
    let s = c.loop-met.self in
    let mid = c.try_next.new.self in
    let new = c.pass_over.new.self in
    let seen : IsSeen r s mid c.in-Some.met = c.in-Some.ensures in
    let t = seen.taken in
    let open_at = subst (IsOpen (run_of r)) (sym t.is) (open_mid r s c.loop-met.invariant.open_at t.low t.level seen.hop t.first) in
    let low : mid.depth < r.high = subst (λ (m : Search). m.depth < r.high) (sym t.is) t.low in
    let one : weight (run_of r) mid.levels.items (suc mid.depth) < weight (run_of r) s.levels.items (suc s.depth) =
    subst (λ (m : Search). weight (run_of r) m.levels.items (suc m.depth) < weight (run_of r) s.levels.items (suc s.depth)) (sym t.is)
    (less_mid r s c.loop-met.invariant.open_at t.low t.level seen.hop t.first) in
    let two : weight (run_of r) new.levels.items (suc new.depth) ≤ weight (run_of r) mid.levels.items (suc mid.depth) = less_passed r mid open_at low new c.pass_over.ensures in
    omega (arith, one, two)

pub loop-met-preserved-else-leads_on : goal.loop-met-preserved-else-leads_on
loop-met-preserved-else-leads_on c =
    let r = c.args.run.now in
    let s = c.loop-met.self in
    let mid = c.try_next.new.self in
    let open_at = c.loop-met.invariant.open_at in
    let seen : IsSeen r s mid c.in-Some.met = c.in-Some.ensures in
    let t = seen.taken in
    let open_next = subst (IsOpen (run_of r)) (sym t.is) (open_mid r s open_at t.low t.level seen.hop t.first) in
    let low : mid.depth < r.high = subst (λ (m : Search). m.depth < r.high) (sym t.is) t.low in
    let short : nat_lt ((run_of r).bounds seen.hop.node + s.depth) r.high ≡ false =
    ap₂ (λ (n : NodeId) (m : Search). nat_lt ((run_of r).bounds n + m.depth) r.high) seen.is.node (sym t.is) ∙ sym c.leads_on.ensures ∙ c.if-leads_on.false in
    record {
      open_at = open_passed r mid open_next low c.pass_over.new.self c.pass_over.ensures;
      owed = c.loop-met.invariant.owed ∙ owed_far r s open_at t.low t.level seen.hop t.first c.requires.bounds short ∙ ap (kept_by (run_of r)) (sym t.is)
          ∙ kept_passed r mid open_next low c.pass_over.new.self c.pass_over.ensures;
    }

pub loop-met-smaller-else-not-is_used : goal.loop-met-smaller-else-not-is_used
loop-met-smaller-else-not-is_used c =
    let r = c.args.run.now in
    let s = c.loop-met.self in
    let seen : IsSeen r s c.try_next.new.self c.in-Some.met = c.in-Some.ensures in
    let t = seen.taken in
    subst (λ (m : Search). weight (run_of r) m.levels.items (suc m.depth) < weight (run_of r) s.levels.items (suc s.depth)) (sym t.is)
    (less_mid r s c.loop-met.invariant.open_at t.low t.level seen.hop t.first)

pub loop-met-preserved-else-not-is_used : goal.loop-met-preserved-else-not-is_used
loop-met-preserved-else-not-is_used c =
    let r = c.args.run.now in
    let s = c.loop-met.self in
    let open_at = c.loop-met.invariant.open_at in
    let mid = c.try_next.new.self in
    let seen : IsSeen r s mid c.in-Some.met = c.in-Some.ensures in
    let hop = seen.hop in
    let t = seen.taken in
    let stands = stands_is r s mid c.in-Some.met open_at seen c.requires.tables true (sym c.if-not-is_used.false ∙ c.is_used.ensures hop seen.is) in
    record {
      open_at = subst (IsOpen (run_of r)) (sym t.is) (open_mid r s open_at t.low t.level hop t.first);
      owed = c.loop-met.invariant.owed ∙ kept_same (run_of r) s (with_level s s.depth t.level) (owed_mid r s open_at t.low t.level hop t.first stands) ∙ ap (kept_by (run_of r)) (sym t.is);
    }

pub returns-then-self-eq0 : goal.returns-then-self-eq0
returns-then-self-eq0 c =
    let r = c.args.run.now in
    let s = c.loop-met.self in
    let t : IsSpent r s c.try_next.new.self = c.in-None.ensures in
    let first = ap (λ (m : Search). m.depth) (sym t.same) ∙ c.if-self-eq0.true in
    let end : IsEnd (owed_by (run_of r)) (run_of r) s s = at_end r s c.loop-met.invariant.open_at (subst (λ m. IsSpent r s m) t.same t) first in
    record {
      open_at = subst (IsOpen (run_of r)) (sym t.same) end.open_at;
      none = c.loop-met.invariant.owed ∙ kept_none (run_of r) s end.none;
    }

pub loop-met-smaller : goal.loop-met-smaller
loop-met-smaller c =
    let r = c.args.run.now in
    let s = c.loop-met.self in
    let t : IsSpent r s c.try_next.new.self = c.in-None.ensures in
    let some : s.depth ≢ 0 = λ none. c.if-self-eq0.false (ap (λ (m : Search). m.depth) t.same ∙ none) in
    subst (λ (m : Search). weight (run_of r) m.levels.items (suc (m.depth - 1)) < weight (run_of r) s.levels.items (suc s.depth)) (sym t.same)
    (less_up r s c.loop-met.invariant.open_at (subst (λ m. IsSpent r s m) t.same t) some)

pub loop-met-preserved : goal.loop-met-preserved
loop-met-preserved c =
    let r = c.args.run.now in
    let s = c.loop-met.self in
    let t : IsSpent r s c.try_next.new.self = c.in-None.ensures in
    let some : s.depth ≢ 0 = λ none. c.if-self-eq0.false (ap (λ (m : Search). m.depth) t.same ∙ none) in
    let spent : IsSpent r s s = subst (λ m. IsSpent r s m) t.same t in
    record {
      open_at = subst (λ (m : Search). IsOpen (run_of r) (record m { depth = m.depth - 1 })) (sym t.same) (open_up r s c.loop-met.invariant.open_at spent some);
      owed = c.loop-met.invariant.owed ∙ kept_same (run_of r) s (record s { depth = s.depth - 1 }) (owed_up r s c.loop-met.invariant.open_at spent some)
          ∙ ap (λ (m : Search). kept_by (run_of r) (record m { depth = m.depth - 1 })) (sym t.same);
    }

pub take-requires-clause-node : goal.take-requires-clause-node
take-requires-clause-node c =
    let r = c.args.run.now in
    let seen : IsSeen r c.loop-met.self c.try_next.new.self c.in-Some.met = c.in-Some.ensures in
    ap (is_node r.follow.graph.now) (sym seen.is.node) ∙ seen.taken.first.there
