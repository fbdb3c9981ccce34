use Rattle.std.proofs.Common.{arith}
use Rattle.gq_steps.specs.Moves.{run_of}
use Rattle.gq_sift.specs.steps.Filters.{FiltersList}
use Rattle.gq_sift.proofs.Cutting.{filters_by, filters_list_by, range_told}
use Rattle.gq_sift.proofs.Listed.{list_count}
use Rattle.gq_steps.proofs.Trying.{scan_count}
use Rattle.gq_sift.proofs.keeping.sift.Goals as goal
use Rattle.gq_sift.proofs.keeping.sift.Goals.{In-Some-filters_list}

pub filter-requires-clause-filters : goal.filter-requires-clause-filters
filter-requires-clause-filters c = filters_by c.args.plan_run.now c.args.group (range_told (run_of c.args.plan_run.now) c.args.group c.requires.steps) c.in-Some.node c.in-Some.ensures.0 c.in-Some.ensures.1

pub filter-requires-clause-inside : goal.filter-requires-clause-inside
filter-requires-clause-inside c =
    let k = run_of c.args.plan_run.now in
    let range = c.requires.steps in
    let some = range.some in
    let end = range.inside in
    let filters = filters_by c.args.plan_run.now c.args.group (range_told k c.args.group range) c.in-Some.node c.in-Some.ensures.0 c.in-Some.ensures.1 in
    let count = scan_count k c.requires.run c.args.group.first (omega (arith, some, end)) c.args.row.now c.requires.held c.in-Some.node filters.scans in
    omega (arith, c.requires.inside, count)

-- how the list is followed
followed : (c : In-Some-filters_list) → FiltersList (run_of c.args.plan_run.now) c.args.group c.in-Some-filters_list.follow
followed c = filters_list_by c.args.plan_run.now c.args.group (range_told (run_of c.args.plan_run.now) c.args.group c.requires.steps) c.in-Some-filters_list.follow c.in-Some-filters_list.ensures.0 c.in-Some-filters_list.ensures.1

pub filter_list-requires-clause-filters : goal.filter_list-requires-clause-filters
filter_list-requires-clause-filters c = followed (goal.at.filter_list-requires-clause-filters c).In-Some-filters_list

pub filter_list-requires-clause-inside : goal.filter_list-requires-clause-inside
filter_list-requires-clause-inside c =
    let count = list_count (run_of c.args.plan_run.now) c.requires.run c.args.group c.requires.steps c.in-Some-filters_list.follow (followed (goal.at.filter_list-requires-clause-inside c).In-Some-filters_list) c.args.row.now c.requires.held in
    omega (arith, c.requires.inside, count)
