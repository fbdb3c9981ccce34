use Rattle.std.proofs.Common.{refl}
use Rattle.gq_steps.specs.Moves.{run_of}
use Rattle.gq_pipe.proofs.Filling.{cells_none}
use Rattle.gq_pipe.proofs.columns.fill_columns.Goals as goal

pub loop-number-init : goal.loop-number-init
loop-number-init c = (c.requires.held, refl, cells_none (run_of c.args.lists.now.plan_run) c.args.lists.now.row c.args.groups.now c.args.housing.now.homes c.args.housing.now.fillings.items c.args.pool.now c.args.slots.now)
