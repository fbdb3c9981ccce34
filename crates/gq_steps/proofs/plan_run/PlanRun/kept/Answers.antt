use Rattle.std.proofs.Common.{◌≡◌, length, arith}
use Rattle.gq_steps.proofs.Trying.{as_many_steps}
use Rattle.gq_steps.specs.Moves.{run_of, steps_in, builds_in}
use Rattle.gq_steps.proofs.Joined.{builds_many}
use Rattle.gq_steps.proofs.plan_run.PlanRun.kept.Goals as goal

pub build_at-requires : goal.build_at-requires
build_at-requires c =
    let k = c.args.self.now in
    let low = c.requires.depth in
    let many = builds_many k.graph.now k.typed.now (run_of k).steps (builds_in k) c.requires.run.builds in
    let same : length (run_of k).steps ≡ length (steps_in k) = as_many_steps k in
    omega (arith, low, many, same)
