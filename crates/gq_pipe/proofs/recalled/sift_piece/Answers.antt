use Rattle.std.proofs.Common.{◌<◌, Some, length, refl, arith}
use Rattle.gq_steps.specs.Moves.{run_of}
use Rattle.gq_pipe.proofs.Recalling.{item_there, set_apart, written_own}
use Rattle.gq_pipe.proofs.recalled.sift_piece.Goals as goal
use Rattle.gq_pipe.proofs.recalled.sift_piece.Goals.{In-Some-found}

low : (c : In-Some-found) → c.args.depth < length c.args.remembered.now.items
low c = let inside = c.in-Some.ensures.variant.0 refl in omega (arith, inside, c.args.remembered.now.ok.0)

pub sift_remembered-requires-clause-remembered : goal.sift_remembered-requires-clause-remembered
sift_remembered-requires-clause-remembered c =
    c.requires.own c.in-Some-found.own (item_there c.args.remembered.now.items c.args.depth c.in-Some.found.now c.in-Some-found.own (low (goal.at.sift_remembered-requires-clause-remembered c).In-Some-found) c.in-Some.ensures.value c.in-Some-found.is)

pub returns-in-Some-found-clause-own : goal.returns-in-Some-found-clause-own
returns-in-Some-found-clause-own c =
    written_own (run_of c.args.plan_run.now) c.args.group c.args.remembered.now.items c.args.depth c.sift_remembered.new.remembered (low (goal.at.returns-in-Some-found-clause-own c).In-Some-found) c.sift_remembered.ensures.remembered

pub returns-in-Some-found-clause-others : goal.returns-in-Some-found-clause-others
returns-in-Some-found-clause-others c = λ d other. set_apart c.args.remembered.now.items c.args.depth d (Some c.sift_remembered.new.remembered) other
