use Rattle.gq_steps.specs.Moves.{run_of}
use Rattle.gq_pipe.proofs.Columned.{AreColumned}
use Rattle.gq_pipe.proofs.columns.fill_column.Given as goal

abbrev pub invariant-loop-index : goal.invariant-loop-index
invariant-loop-index l = AreColumned (run_of l.fn.lists.plan_run) l.fn.lists.row l.fn.groups l.housing.homes l.housing.fillings.items l.slots l.number l.index l.initial.pool l.pool
