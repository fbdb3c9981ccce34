use Rattle.std.proofs.Common.{◌≡◌, ◌∙◌, length, sym, arith}
use Rattle.std.specs.Coded.{Coded-set, coded_ℕ}
use Rattle.std.proofs.Math.Logic.{∥∥₁_elim}
use Rattle.gq_sift.specs.Remembered.{IsRemembered}
use Rattle.gq_sift.specs.declared.remembered.Remembered.{Remembered}
use Rattle.gq_steps.specs.Levels.{Run}
use Rattle.gq_steps.specs.Moves.{run_of}
use Rattle.gq_steps.specs.declared.group_steps.GroupSteps.{GroupSteps}
use Rattle.gq_sift.proofs.Recalled.{given, taken, turned}
use Rattle.gq_sift.proofs.remembered.recall.Goals as goal
use Rattle.gq_sift.proofs.remembered.recall.Goals.{After-turn}

-- rows of all node variables stand in what is remembered
as_long : (c : Run) (group : GroupSteps) (m : Remembered) → ∥ IsRemembered c group m ∥₁ → length m.rows.items ≡ length c.typed.nodes
as_long c group m r = ∥∥₁_elim r (Coded-set coded_ℕ _ _) (λ x. x.long)

pub turn-requires-clause-long : goal.turn-requires-clause-long
turn-requires-clause-long c = as_long (run_of c.args.plan_run.now) c.args.group c.args.remembered.now c.requires.remembered ∙ sym c.requires.held.node_count

pub turn-requires-clause-few : goal.turn-requires-clause-few
turn-requires-clause-few c =
    let long = as_long (run_of c.args.plan_run.now) c.args.group c.args.remembered.now c.requires.remembered in
    let few = c.requires.run.sound.nodes_fit in
    omega (arith, long, few)

-- what is remembered where these rows stand
now : (c : After-turn) → ∥ IsRemembered (run_of c.args.plan_run.now) c.args.group c.turn.new.self ∥₁
now c = turned (run_of c.args.plan_run.now) c.args.group c.args.remembered.now c.turn.new.self c.requires.remembered c.turn.ensures.follow c.turn.ensures.reads c.turn.ensures.long c.turn.ensures.kept

pub returns-then-give-clause-tested : goal.returns-then-give-clause-tested
returns-then-give-clause-tested c =
    let g = c.give.ensures c.if-give.true in
    given (run_of c.args.plan_run.now) c.args.group c.turn.new.self (now (goal.at.returns-then-give-clause-tested c).After-turn) c.args.follow c.requires.filters c.args.row.now c.requires.held c.turn.ensures.stands
    c.args.piece c.args.count g.kept g.there g.many c.give.new.marks g.whole g.each

pub returns-then-give-clause-remembered : goal.returns-then-give-clause-remembered
returns-then-give-clause-remembered c = now (goal.at.returns-then-give-clause-remembered c).After-turn

pub returns-clause-remembered : goal.returns-clause-remembered
returns-clause-remembered c =
    taken (run_of c.args.plan_run.now) c.requires.run c.args.group c.requires.steps c.args.follow c.requires.filters c.turn.new.self c.take.new.self (now (goal.at.returns-clause-remembered c).After-turn)
    c.take.ensures.follow c.take.ensures.reads c.take.ensures.rows c.args.row.now c.requires.held c.turn.ensures.stands c.args.piece c.args.count c.test_list.new.marks c.test_list.ensures.tested c.take.ensures.pieces
