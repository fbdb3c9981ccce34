use Rattle.std.proofs.Common.{◌≡◌}
use Rattle.gq_pipe.specs.Serving.{HasCells}
use Rattle.gq_pool.specs.Slots.{Holds}
use Rattle.gq_pipe.specs.steps.Cells.{filled}
use Rattle.gq_steps.specs.Moves.{run_of}
use Rattle.gq_pipe.proofs.columns.fill_columns.Given as goal

abbrev pub invariant-loop-number : goal.invariant-loop-number
invariant-loop-number l =
    Holds l.pool l.slots × (l.pool.out ≡ l.initial.pool.out)
    × HasCells l.pool l.slots (filled (run_of l.lists.plan_run) l.lists.row l.groups l.housing.homes l.housing.fillings.items l.number)
