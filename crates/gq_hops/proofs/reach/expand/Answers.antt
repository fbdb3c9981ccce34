use Rattle.std.proofs.Common.{◌≡◌, true, false, refl, sym, ap, ap₂, ◌∙◌, subst}
use Rattle.std.specs.List.{list_any}
use Rattle.std.specs.Prelude.{if◌then◌else◌}
use Rattle.gq_marks.specs.Visiting.{Visiting, with_node}
use Rattle.gq_plan.specs.Assignments.{is_node, same_rel}
use Rattle.gq_hops.specs.Levels.{spread_over}
use Rattle.gq_hops.specs.steps.Hops.{IsMetNext, left_at, left_of}
use Rattle.gq_hops.specs.steps.Sizes.{AreNodes}
use Rattle.gq_hops.proofs.Hopping.{all_met}
use Rattle.gq_hops.proofs.Reaching.{nodes_more, passed_by}
use Rattle.gq_hops.proofs.reach.expand.Goals as goal

pub loop-met-init : goal.loop-met-init
loop-met-init c =
    let g = c.args.follow.now.graph.now in
    let kind = c.args.follow.now.kind.now in
    let way = c.args.follow.now.way in
    let l = c.level_at-level.result in
    let start = c.level_at-level.ensures.start in
    record {
      level = c.level_at-level.ensures.level;
      sizes = refl;
      there = c.requires.there;
      rest = ap (spread_over g way c.args.used.now c.args.visited.now.nodes)
          (ap (λ n. left_at g kind way n l.table l.place) start.at_is ∙ ap₂ (left_at g kind way c.args.at) start.table_is start.place_is ∙ sym (all_met g kind way c.args.at));
    }

pub loop-met-preserved-then-not-is_used : goal.loop-met-preserved-then-not-is_used
loop-met-preserved-then-not-is_used c =
    let f = c.args.follow.now in
    let used = c.args.used.now in
    let n = c.in-Some.met.node in
    let next : IsMetNext f c.loop-met.level c.next_met.new.level c.in-Some.met = c.in-Some.ensures in
    let old = c.loop-met.visited.nodes in
    let left = left_of f c.next_met.new.level in
    let free : list_any (same_rel next.hop.rel) used ≡ false = sym (c.is_used.ensures next.hop next.is) ∙ c.if-not-is_used.true in
    let here : is_node f.graph.now n ≡ true = ap (is_node f.graph.now) (sym next.is.node) ∙ next.first.there in
    record {
      level = next.first.level;
      sizes = ap (λ (v : Visiting). v.sizes) c.visit.ensures ∙ c.loop-met.invariant.sizes;
      there = subst (AreNodes f.graph.now) (sym (ap (λ (v : Visiting). v.nodes) c.visit.ensures)) (nodes_more f.graph.now old n here c.loop-met.invariant.there);
      rest = ap (λ (v : Visiting). spread_over f.graph.now f.way used v.nodes left) c.visit.ensures
          ∙ ap (λ u. spread_over f.graph.now f.way used (if u then old else with_node old n) left) (sym free)
          ∙ passed_by f used old c.in-Some.met next ∙ c.loop-met.invariant.rest;
    }

pub loop-met-preserved : goal.loop-met-preserved
loop-met-preserved c =
    let next : IsMetNext c.args.follow.now c.loop-met.level c.next_met.new.level c.in-Some.met = c.in-Some.ensures in
    let taken : list_any (same_rel next.hop.rel) c.args.used.now ≡ true = sym (c.is_used.ensures next.hop next.is) ∙ c.if-not-is_used.false in
    record {
      level = next.first.level;
      sizes = c.loop-met.invariant.sizes;
      there = c.loop-met.invariant.there;
      rest = ap (λ u. spread_over c.args.follow.now.graph.now c.args.follow.now.way c.args.used.now (if u then c.loop-met.visited.nodes else with_node c.loop-met.visited.nodes c.in-Some.met.node) (left_of c.args.follow.now c.next_met.new.level)) (sym taken)
          ∙ passed_by c.args.follow.now c.args.used.now c.loop-met.visited.nodes c.in-Some.met next ∙ c.loop-met.invariant.rest;
    }
