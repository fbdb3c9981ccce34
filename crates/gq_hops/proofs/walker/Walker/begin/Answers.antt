use Rattle.std.proofs.Common.{◌∙◌, List, None, Some, filter, set, sym, ap, arith}
use Rattle.gq_base.specs.declared.RelId.{RelId}
use Rattle.gq_law_trails.specs.Bounds.{comes}
use Rattle.gq_law_trails.specs.Walks.{walks}
use Rattle.gq_marks.specs.Marking.{Marking, bound_of}
use Rattle.gq_hops.specs.Walking.{Course, Walking}
use Rattle.gq_hops.specs.steps.Searches.{Run, kept_by, left_in, rels_in, run_of}
use Rattle.gq_hops.proofs.Owing.{begun, from_any}
use Rattle.gq_hops.proofs.Searching.{set_level, started}
use Rattle.gq_hops.proofs.walker.Walker.begin.Goals as goal

pub returns-clause-owed : goal.returns-clause-owed
returns-clause-owed c =
    let s = c.self.inside.search in
    let bounds = c.self.inside.run.bounds in
    let run : Run = record { course = (run_of c.self.inside.run).course; used = c.set.new.self; bounds = bound_of bounds } in
    let walks_in : Course → Marking → List RelId → List (List RelId) = λ k m used. filter (comes k.graph k.way (bound_of m) (Some c.args.start)) (walks k.graph k.kind k.way k.low k.high (Some c.args.start) used) in
    let b = c.begin.ensures in
    ap (kept_by run) b.is
    ∙ ap (filter (comes run.course.graph run.course.way run.bounds None))
    (sym (begun run (rels_in run s) (set s.levels.items 0 b.level) c.args.start c.self.invariant.low
    (ap (left_in run.course) (set_level s.levels.items 0 b.level (omega (arith, c.self.invariant.room.levels))) ∙ started run.course b.level c.args.start b.start)))
    ∙ from_any run.course run.bounds run.course.low run.course.high (Some c.args.start) c.set.new.self c.self.invariant.low
    ∙ ap (λ (w : Walking). walks_in w.course w.bounds c.set.new.self) c.self.view_is
    ∙ ap (walks_in c.args.self.now.course c.args.self.now.bounds) c.set.ensures
