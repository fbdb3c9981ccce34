use Rattle.std.proofs.Common.{◌<◌, arith}
use Rattle.gq_steps.specs.Moves.{run_of}
use Rattle.gq_steps.proofs.Trying.{as_many_steps}
use Rattle.gq_chains.proofs.Extending.{extends_as}
use Rattle.gq_chains.proofs.Reached.{all_reached, apart_there, begun, can_begin, can_reach, gone_on, not_begun, not_gone}
use Rattle.gq_chains.proofs.chain.reach_place.Goals as goal
use Rattle.gq_chains.proofs.chain.reach_place.Goals.{In-loop-depth}

pub begin-requires-clause-can : goal.begin-requires-clause-can
begin-requires-clause-can c = can_begin (run_of c.args.plan_run.now) c.requires.run c.args.group c.requires.steps c.args.place c.args.row.now c.requires.held c.args.beginning c.requires.chain.begins

pub returns-then-not-begin : goal.returns-then-not-begin
returns-then-not-begin c =
    not_begun (run_of c.args.plan_run.now) c.requires.run c.args.group c.requires.steps c.args.place c.args.row.now c.requires.held c.args.beginning c.requires.chain.begins
    c.begin.result c.begin.new.row c.begin.ensures c.if-not-begin.true

pub loop-depth-init : goal.loop-depth-init
loop-depth-init c =
    begun (run_of c.args.plan_run.now) c.requires.run c.args.group c.requires.steps c.args.place c.args.row.now c.requires.held c.args.beginning c.requires.chain.begins
    c.begin.result c.begin.new.row c.begin.ensures c.if-not-begin.false

above : (c : In-loop-depth) → c.args.group.first < c.loop-depth.depth
above c = let low = c.loop-depth.auto.depth in omega arith

pub go_on-requires-clause-depth : goal.go_on-requires-clause-depth
go_on-requires-clause-depth c = let end = c.requires.steps.inside in let below = c.loop-depth-test.true in omega (arith, end, below, as_many_steps c.args.plan_run.now)

pub go_on-requires-clause-can : goal.go_on-requires-clause-can
go_on-requires-clause-can c = λ f is.
    can_reach (run_of c.args.plan_run.now) c.requires.run c.args.group c.requires.steps c.args.place c.args.row.now c.requires.held c.loop-depth.depth c.loop-depth.row c.loop-depth.invariant
    (above (goal.at.go_on-requires-clause-can c).In-loop-depth) c.loop-depth-test.true f (extends_as (run_of c.args.plan_run.now) c.loop-depth.depth f is)

pub go_on-requires-clause-ends : goal.go_on-requires-clause-ends
go_on-requires-clause-ends c =
    let over = above (goal.at.go_on-requires-clause-ends c).In-loop-depth in
    apart_there (run_of c.args.plan_run.now) c.requires.run c.args.group c.requires.steps c.args.place c.args.row.now c.requires.held c.loop-depth.depth c.loop-depth.row c.loop-depth.invariant over c.loop-depth-test.true
    (c.requires.chain.goes_on c.loop-depth.depth over c.loop-depth-test.true)

pub loop-depth-preserved : goal.loop-depth-preserved
loop-depth-preserved c =
    let over = above (goal.at.loop-depth-preserved c).In-loop-depth in
    gone_on (run_of c.args.plan_run.now) c.requires.run c.args.group c.requires.steps c.args.place c.args.row.now c.requires.held c.loop-depth.depth c.loop-depth.row c.loop-depth.invariant over c.loop-depth-test.true
    (c.requires.chain.goes_on c.loop-depth.depth over c.loop-depth-test.true) c.go_on.result c.go_on.new.row c.go_on.ensures.follows c.go_on.ensures.tests c.go_on.ensures.pairs c.if-not-go_on.false

pub returns-then-not-go_on : goal.returns-then-not-go_on
returns-then-not-go_on c =
    let over = above (goal.at.returns-then-not-go_on c).In-loop-depth in
    not_gone (run_of c.args.plan_run.now) c.requires.run c.args.group c.requires.steps c.args.place c.args.row.now c.requires.held c.loop-depth.depth c.loop-depth.row c.loop-depth.invariant over c.loop-depth-test.true
    (c.requires.chain.goes_on c.loop-depth.depth over c.loop-depth-test.true) c.go_on.result c.go_on.new.row c.go_on.ensures.follows c.go_on.ensures.tests c.go_on.ensures.pairs c.if-not-go_on.true

pub returns : goal.returns
returns c =
    all_reached (run_of c.args.plan_run.now) c.requires.run c.args.group c.requires.steps c.args.place c.args.row.now c.requires.held c.loop-depth.depth c.loop-depth.row c.loop-depth.invariant c.loop-depth-test.false
