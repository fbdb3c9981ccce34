use Rattle.std.proofs.Common.{◌≡◌, ◌∙◌, ◌++◌, ℕ, filter, get_or, List, Option, Some, ap, ap₂, sym, refl, arith}
use Rattle.std.proofs.lemmas.List.{get_or_default, get_or_read}
use Rattle.gq_base.specs.declared.NodeId.{NodeId}
use Rattle.gq_base.specs.declared.RelId.{RelId}
use Rattle.gq_law_trails.specs.Bounds.{comes}
use Rattle.gq_law_trails.specs.Trails.{fits_end, taken_in, used_in}
use Rattle.gq_law_trails.specs.Walks.{walks}
use Rattle.gq_plan.specs.declared.TrailPart.{TrailPart}
use Rattle.gq_marks.specs.Marking.{bound_of}
use Rattle.gq_plan.specs.Assignments.{is_node}
use Rattle.gq_plan.specs.Meaning.{look}
use Rattle.gq_outer.specs.Rows.{item_at}
use Rattle.gq_trails.specs.Trekking.{patterns_in}
use Rattle.gq_hops.specs.Walking.{Course, Walking, course_of}
use Rattle.gq_trails.specs.steps.Journeys.{Journey, journey_of, no_part, no_walk, part_at, patterns_of, row_at, walk_at, walked_at}
use Rattle.gq_trails.specs.steps.Ends.{may_end}
use Rattle.gq_trails.proofs.Searched.{from_is, from_node, from_there, met_not, to_node}
use Rattle.gq_trails.proofs.trek.Trek.start.Goals as goal

pub begin_at-requires-clause-start : goal.begin_at-requires-clause-start
begin_at-requires-clause-start c =
    let r = c.args.route.now in
    let s = c.args.self.now in
    let d = c.args.depth in
    let j : Journey = journey_of r s.row in
    let part_is : get_or r.parts.now d c.index-route-depth.result ≡ part_at r.parts.now d = sym (get_or_default r.parts.now d no_part c.index-route-depth.result c.requires.low) in
    let elem : c.index_mut.result.now ≡ walk_at s.walkers.items d = get_or_read s.walkers.items d c.index_mut.result.now (omega (arith, c.requires.low, c.requires.walkers.count)) c.index_mut.ensures.value no_walk in
    let start_is : item_at s.row.nodes (part_at r.parts.now d).from ≡ Some c.in-Some.start = ap (λ (p : TrailPart). item_at s.row.nodes p.from) (sym part_is) ∙ sym c.node.ensures ∙ c.in-Some.is in
    ap (λ (v : Walking). is_node v.course.graph c.in-Some.start) elem
    ∙ ap (λ (k : Course). is_node k.graph c.in-Some.start) (c.requires.walkers.courses d c.requires.low).course
    ∙ from_node j s.walkers.items s.row d c.requires.low c.requires.at c.in-Some.start start_is

pub begin_at-requires-clause-end : goal.begin_at-requires-clause-end
begin_at-requires-clause-end c both end is =
    let r = c.args.route.now in
    let s = c.args.self.now in
    let d = c.args.depth in
    let j : Journey = journey_of r s.row in
    let part_is : get_or r.parts.now d c.index-route-depth.result ≡ part_at r.parts.now d = sym (get_or_default r.parts.now d no_part c.index-route-depth.result c.requires.low) in
    let elem : c.index_mut.result.now ≡ walk_at s.walkers.items d = get_or_read s.walkers.items d c.index_mut.result.now (omega (arith, c.requires.low, c.requires.walkers.count)) c.index_mut.ensures.value no_walk in
    ap (λ (v : Walking). is_node v.course.graph end) elem
    ∙ ap (λ (k : Course). is_node k.graph end) (c.requires.walkers.courses d c.requires.low).course
    ∙ to_node j s.walkers.items s.row d c.requires.low c.requires.at (ap (λ (p : TrailPart). p.both) (sym part_is) ∙ both) end (ap (λ (p : TrailPart). item_at s.row.nodes p.to) (sym part_is) ∙ is)

pub begin_at-requires-clause-fits : goal.begin_at-requires-clause-fits
begin_at-requires-clause-fits c other n node fits =
    let r = c.args.route.now in
    let s = c.args.self.now in
    let d = c.args.depth in
    let part_is : get_or r.parts.now d c.index-route-depth.result ≡ part_at r.parts.now d = sym (get_or_default r.parts.now d no_part c.index-route-depth.result c.requires.low) in
    let elem : c.index_mut.result.now ≡ walk_at s.walkers.items d = get_or_read s.walkers.items d c.index_mut.result.now (omega (arith, c.requires.low, c.requires.walkers.count)) c.index_mut.ensures.value no_walk in
    let goes = c.requires.walkers.courses d c.requires.low in
    let graph_is = ap (λ (v : Walking). v.course.graph) elem ∙ ap (λ (k : Course). k.graph) goes.course in
    ap (λ (v : Walking). bound_of v.bounds n) elem
    ∙ goes.fits (ap (λ (p : TrailPart). p.both) (sym part_is) ∙ other) n (ap (λ g. is_node g n) (sym graph_is) ∙ node) (ap₂ (λ g q. fits_end g q n) (sym graph_is) (sym part_is) ∙ fits)

pub returns-in-Some : goal.returns-in-Some
returns-in-Some c =
    let r = c.args.route.now in
    let s = c.args.self.now in
    let d = c.args.depth in
    let j : Journey = journey_of r s.row in
    let p : TrailPart = part_at r.parts.now d in
    let part_is : get_or r.parts.now d c.index-route-depth.result ≡ part_at r.parts.now d = sym (get_or_default r.parts.now d no_part c.index-route-depth.result c.requires.low) in
    let elem : c.index_mut.result.now ≡ walk_at s.walkers.items d = get_or_read s.walkers.items d c.index_mut.result.now (omega (arith, c.requires.low, c.requires.walkers.count)) c.index_mut.ensures.value no_walk in
    let start_is : item_at s.row.nodes p.from ≡ Some c.in-Some.start = ap (λ (q : TrailPart). item_at s.row.nodes q.from) (sym part_is) ∙ sym c.node.ensures ∙ c.in-Some.is in
    let clause_is = ap (λ (q : TrailPart). q.clause) part_is in
    let used_is : c.as_slice-taken.result.now ≡ used_in (patterns_of j) (walked_at r.parts.now s.walkers.items d) p.clause =
    c.as_slice-taken.ensures ∙ c.take_patterns.ensures.taken
    ∙ ap₂ (λ (a b : List RelId). a ++ b)
    (c.take_walks.ensures.taken
    ∙ ap₂ (λ (a b : List RelId). a ++ b) c.clear.ensures
    (ap₂ (λ cl us. taken_in cl (walked_at r.parts.now us d)) clause_is c.as_slice-walkers.ensures.value))
    (ap (patterns_in r.rels.now s.row.rels) clause_is) in
    let walked : Course → Option NodeId → List RelId → List (List RelId) = λ k o us. filter (comes k.graph k.way (bound_of c.begin_at.new.walker.bounds) o) (walks k.graph k.kind k.way k.low k.high o us) in
    let d0 : NodeId → ℕ = bound_of c.begin_at.new.walker.bounds in
    let goes = c.requires.walkers.courses d c.requires.low in
    let graph_is = ap (λ (v : Walking). v.course.graph) elem ∙ ap (λ (k : Course). k.graph) goes.course in
    let start_at : Some c.in-Some.start ≡ look (row_at j s.walkers.items d).nodes p.from = sym start_is ∙ from_is j s.walkers.items s.row d c.requires.low c.requires.at in
    record {
      walk = c.begin_at.new.walker;
      is = refl;
      test = comes r.graph.now p.way d0 (look (row_at j s.walkers.items d).nodes p.from);
      owed = c.begin_at.ensures.owed
          ∙ ap (λ (v : Walking). walked v.course (Some c.in-Some.start) c.as_slice-taken.result.now) elem
          ∙ ap (λ k. walked k (Some c.in-Some.start) c.as_slice-taken.result.now) (c.requires.walkers.courses d c.requires.low).course
          ∙ ap₂ (walked (course_of r.graph.now p)) start_at used_is;
      missed = λ l drops. met_not j s.walkers.items s.row d c.requires.low c.requires.at c.stands_valid.ensures l d0
          (λ end node may. c.begin_at.ensures.bounds end (ap (λ g. is_node g end) graph_is ∙ node) (ap₂ (λ g q. may_end g q s.row end) graph_is part_is ∙ may)) drops;
      goes = record {
        course = c.begin_at.ensures.course ∙ ap (λ (v : Walking). v.course) elem ∙ goes.course;
        fits = λ other n node fits. c.begin_at.ensures.fits (ap (λ (q : TrailPart). q.both) part_is ∙ other) n (ap (λ g. is_node g n) graph_is ∙ node) (ap₂ (λ g q. fits_end g q n) graph_is part_is ∙ fits);
      };
      row = refl;
    }

pub returns-in-None : goal.returns-in-None
returns-in-None c =
    let r = c.args.route.now in
    let s = c.args.self.now in
    let d = c.args.depth in
    let part_is : get_or r.parts.now d c.index-route-depth.result ≡ part_at r.parts.now d = sym (get_or_default r.parts.now d no_part c.index-route-depth.result c.requires.low) in
    absurd (from_there (journey_of r s.row) s.walkers.items s.row d c.requires.low c.requires.at (ap (λ (p : TrailPart). item_at s.row.nodes p.from) (sym part_is) ∙ sym c.node.ensures ∙ c.in-None.is))
