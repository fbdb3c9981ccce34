use Rattle.std.proofs.Common.{◌<◌, ◌+◌, arith}
use Rattle.gq_chains.specs.declared.chain.Beginning.TheVariants as begin
use Rattle.gq_steps.specs.Moves.{run_of}
use Rattle.gq_chains.proofs.Extending.{extends_as}
use Rattle.gq_chains.proofs.Reached.{can_begin, can_reach}
use Rattle.gq_chains.proofs.Standing.{first_standing, next_standing, pair_there, standing_kept, standing_reached}
use Rattle.gq_chains.proofs.blocks.sift_block.Goals as goal
use Rattle.gq_chains.proofs.blocks.sift_block.Goals.{In-loop-depth}

pub begin_block-requires-clause-can : goal.begin_block-requires-clause-can
begin_block-requires-clause-can c = can_begin (run_of c.args.plan_run.now) c.requires.run c.args.group c.requires.steps 0 c.args.row.now c.requires.held (begin.Rows c.args.node) c.requires.chain.begins

pub loop-depth-init : goal.loop-depth-init
loop-depth-init c =
    first_standing (run_of c.args.plan_run.now) c.requires.run c.args.group c.requires.steps (c.args.first + c.args.offset) c.args.offset c.args.row.now c.requires.held c.args.node c.requires.chain.begins
    c.spread.new.rows c.begin_block.new.rows c.args.marks.now c.begin_block.new.marks c.spread.ensures c.begin_block.ensures

above : (c : In-loop-depth) → c.args.group.first < c.loop-depth.depth
above c = let low = c.loop-depth.auto.depth in omega arith

pub step_block-requires-clause-can : goal.step_block-requires-clause-can
step_block-requires-clause-can c = λ f is j low on.
    can_reach (run_of c.args.plan_run.now) c.requires.run c.args.group c.requires.steps (c.args.first + c.args.offset + j) c.args.row.now c.requires.held c.loop-depth.depth _
    (standing_reached (run_of c.args.plan_run.now) c.requires.run c.args.group c.requires.steps (c.args.first + c.args.offset) c.args.offset c.args.row.now c.requires.held c.loop-depth.depth c.loop-depth.rows c.args.marks.now c.loop-depth.marks c.loop-depth.invariant j low on)
    (above (goal.at.step_block-requires-clause-can c).In-loop-depth) c.loop-depth-test.true f (extends_as (run_of c.args.plan_run.now) c.loop-depth.depth f is)

pub step_block-requires-clause-ends : goal.step_block-requires-clause-ends
step_block-requires-clause-ends c =
    pair_there (run_of c.args.plan_run.now) c.requires.run c.args.row.now c.requires.held.node_count c.args.group.first c.loop-depth.depth
    (c.requires.chain.goes_on c.loop-depth.depth (above (goal.at.step_block-requires-clause-ends c).In-loop-depth) c.loop-depth-test.true)

pub loop-depth-preserved : goal.loop-depth-preserved
loop-depth-preserved c =
    let over = above (goal.at.loop-depth-preserved c).In-loop-depth in
    next_standing (run_of c.args.plan_run.now) c.requires.run c.args.group c.requires.steps (c.args.first + c.args.offset) c.args.offset c.args.row.now c.requires.held c.loop-depth.depth over c.loop-depth-test.true
    c.loop-depth.rows c.step_block.new.rows c.args.marks.now c.loop-depth.marks c.step_block.new.marks c.loop-depth.invariant
    (c.requires.chain.goes_on c.loop-depth.depth over c.loop-depth-test.true) (c.requires.tests c.loop-depth.depth over c.loop-depth-test.true) c.step_block.ensures.follows c.step_block.ensures.pairs

pub returns-clause-kept : goal.returns-clause-kept
returns-clause-kept c =
    standing_kept (run_of c.args.plan_run.now) c.requires.run c.args.group c.requires.steps (c.args.first + c.args.offset) c.args.offset c.args.row.now c.requires.held c.loop-depth.depth c.loop-depth.rows c.args.marks.now c.loop-depth.marks c.loop-depth.invariant c.loop-depth-test.false

pub returns-clause-outside : goal.returns-clause-outside
returns-clause-outside c = c.loop-depth.invariant.walked.outside
