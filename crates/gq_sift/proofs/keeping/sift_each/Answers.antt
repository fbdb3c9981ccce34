use Rattle.gq_steps.specs.Moves.{run_of}
use Rattle.gq_sift.proofs.Candidates.{among_candidates}
use Rattle.gq_sift.proofs.keeping.sift_each.Goals as goal

pub test_edges-requires-clause-among : goal.test_edges-requires-clause-among
test_edges-requires-clause-among c = among_candidates (run_of c.args.plan_run.now) c.args.group c.args.first c.args.count c.args.row.now c.candidates.new.marks c.candidates.ensures

pub returns-then-test_edges : goal.returns-then-test_edges
returns-then-test_edges c = c.test_edges.ensures.told c.if-test_edges.true
