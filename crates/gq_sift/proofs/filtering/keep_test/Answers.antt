use Rattle.gq_filter.proofs.Still.{still}
use Rattle.gq_sift.proofs.filtering.keep_test.Goals as goal

pub returns-in-Some-clause-same : goal.returns-in-Some-clause-same
returns-in-Some-clause-same c = λ k. record {
  graph = c.args.plan_run.now.graph;
  typed = c.args.plan_run.now.typed;
  plan = c.args.plan_run.now.plan;
  steps = c.args.plan_run.now.steps;
  builds = c.args.plan_run.now.builds;
  tests = still c.args.plan_run.now.tests c.args.test c.in-Some.test.now c.keep_rows.new.self c.in-Some.ensures.value c.keep_rows.ensures.same k;
}
