use Rattle.std.proofs.lemmas.Bool.{not-false}
use Rattle.gq_steps.specs.Groups.{group_at}
use Rattle.gq_steps.specs.Moves.{run_of}
use Rattle.gq_pipe.proofs.Telling.{sight_first}
use Rattle.gq_pipe.proofs.sights.sight_of.Goals as goal

pub returns-then-thins : goal.returns-then-thins
returns-then-thins c =
    sight_first (run_of c.args.plan_run.now) c.args.groups.now c.args.depth c.in_ok-node.node c.loop-later.later c.in-Some.follow c.sight_by.result
    c.in_ok-node.ensures (not-false (group_at c.args.groups.now c.args.depth).flat c.if-not-group.false) c.loop-later.invariant c.loop-later-test.true c.in-Some.ensures
    c.sight_by.ensures.node c.sight_by.ensures.later c.sight_by.ensures.group c.sight_by.ensures.far c.sight_by.ensures.far_in
    c.sight_by.ensures.graph c.sight_by.ensures.table c.sight_by.ensures.direction c.sight_by.ensures.told
