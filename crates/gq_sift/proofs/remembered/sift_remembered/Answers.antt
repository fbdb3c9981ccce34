use Rattle.std.proofs.Common.{◌+◌, ◌*◌, ◌≤◌, length, sym, subst, arith}
use Rattle.std.specs.Prelude.{slice_index}
use Rattle.gq_bits.specs.declared.TheConstants.{VECTOR}
use Rattle.gq_plan.specs.Rows.{rel_table}
use Rattle.gq_plan.specs.declared.assignment.Assignment.{Assignment}
use Rattle.gq_steps.specs.Moves.{run_of}
use Rattle.gq_steps.specs.declared.plan_run.PlanRun.{PlanRun}
use Rattle.gq_store.specs.Neighbours.{neighbours}
use Rattle.gq_sift.specs.steps.Filters.{FiltersList}
use Rattle.gq_sift.proofs.Cutting.{filters_list_by, range_told}
use Rattle.gq_sift.proofs.Listed.{list_count}
use Rattle.gq_sift.proofs.remembered.sift_remembered.Goals as goal
use Rattle.gq_sift.proofs.remembered.sift_remembered.Goals.{In-Some}

-- how the list is followed
followed : (c : In-Some) → FiltersList (run_of c.args.plan_run.now) c.args.group c.in-Some.follow
followed c = filters_list_by c.args.plan_run.now c.args.group (range_told (run_of c.args.plan_run.now) c.args.group c.requires.steps) c.in-Some.follow c.in-Some.ensures.0 c.in-Some.ensures.1

pub recall-requires-clause-filters : goal.recall-requires-clause-filters
recall-requires-clause-filters c = followed (goal.at.recall-requires-clause-filters c).In-Some

-- the list is as long as the places of the first step are many
long : (c : In-Some) → c.args.piece * VECTOR + c.args.count ≤ length (neighbours c.args.plan_run.now.graph.now (rel_table c.args.plan_run.now.typed.now c.in-Some.follow.rel) c.in-Some.follow.direction (slice_index c.args.row.now.nodes c.in-Some.follow.from))
long c =
    let count = list_count (run_of c.args.plan_run.now) c.requires.run c.args.group c.requires.steps c.in-Some.follow (followed c) c.args.row.now c.requires.held in
    omega (arith, c.requires.inside, count)

pub recall-requires-clause-inside : goal.recall-requires-clause-inside
recall-requires-clause-inside c = long (goal.at.recall-requires-clause-inside c).In-Some

pub drop_pairs-requires-clause-inside : goal.drop_pairs-requires-clause-inside
drop_pairs-requires-clause-inside c =
    let f = c.in-Some.follow in
    let end = c.args.piece * VECTOR + c.args.count in
    subst (λ (p : PlanRun). end ≤ length (neighbours p.graph.now (rel_table p.typed.now f.rel) f.direction (slice_index c.recall.new.row.nodes f.from))) (sym c.recall.ensures.same)
    (subst (λ (r : Assignment). end ≤ length (neighbours c.args.plan_run.now.graph.now (rel_table c.args.plan_run.now.typed.now f.rel) f.direction (slice_index r.nodes f.from))) (sym c.recall.ensures.row)
    (long (goal.at.drop_pairs-requires-clause-inside c).In-Some))
