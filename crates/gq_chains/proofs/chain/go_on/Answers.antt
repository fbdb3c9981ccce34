use Rattle.std.proofs.Common.{◌≡◌, sym, subst}
use Rattle.gq_steps.specs.Levels.{step_at}
use Rattle.gq_steps.specs.Moves.{run_of}
use Rattle.gq_steps.specs.Reaching.{Reaches}
use Rattle.gq_plan.specs.declared.follow.Follow.{Follow}
use Rattle.gq_chains.proofs.Reached.{follows_no_pair, follows_none}
use Rattle.gq_chains.proofs.chain.go_on.Goals as goal

pub reach-requires : goal.reach-requires
reach-requires c = c.requires.can c.in-Some.follow (sym c.in-Some.ensures)

pub returns-in-Some-clause-follows : goal.returns-in-Some-clause-follows
returns-in-Some-clause-follows c = λ f is.
    let same : c.in-Some.follow ≡ f = cc (c.in-Some.ensures, is) in
    subst (λ (g : Follow). Reaches c.args.plan_run.now.graph.now c.args.plan_run.now.typed.now g 0 c.args.row.now c.reach.result c.reach.new.row) same c.reach.ensures

pub returns-in-Some-clause-tests : goal.returns-in-Some-clause-tests
returns-in-Some-clause-tests c = λ i is. absurd (follows_none (step_at (run_of c.args.plan_run.now) c.args.depth) c.in-Some.follow i (sym c.in-Some.ensures) is)

pub returns-in-Some-clause-pairs : goal.returns-in-Some-clause-pairs
returns-in-Some-clause-pairs c = λ p is. absurd (follows_no_pair (step_at (run_of c.args.plan_run.now) c.args.depth) c.in-Some.follow p (sym c.in-Some.ensures) is)
