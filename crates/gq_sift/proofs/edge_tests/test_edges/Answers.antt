use Rattle.std.proofs.Common.{inl, arith}
use Rattle.gq_chains.specs.steps.Extends.{Extends}
use Rattle.gq_steps.specs.Moves.{run_of}
use Rattle.gq_chains.proofs.Acted.{extends_by}
use Rattle.gq_sift.proofs.Refused.{extends_count}
use Rattle.gq_sift.proofs.edge_tests.test_edges.Goals as goal
use Rattle.gq_sift.proofs.edge_tests.test_edges.Goals.{In-Some}

-- how the list is followed
followed : (c : In-Some) → Extends (run_of c.args.plan_run.now) c.args.group.first c.in-Some.follow
followed c = extends_by c.args.plan_run.now c.args.group.first c.args.group.action c.in-Some.follow c.requires.steps.action (inl c.in-Some.ensures)

pub test_part-requires-clause-extends : goal.test_part-requires-clause-extends
test_part-requires-clause-extends c = followed (goal.at.test_part-requires-clause-extends c).In-Some

pub test_part-requires-clause-inside : goal.test_part-requires-clause-inside
test_part-requires-clause-inside c =
    let count = extends_count (run_of c.args.plan_run.now) c.requires.run c.args.group c.requires.steps c.args.row.now c.requires.held c.in-Some.follow (followed (goal.at.test_part-requires-clause-inside c).In-Some) in
    omega (arith, c.requires.inside, count)
