use Rattle.gq_steps.specs.Moves.{run_of}
use Rattle.gq_homes.proofs.Homing.{Starts}
use Rattle.gq_homes.proofs.homes.find_homes.Given as goal

abbrev pub invariant-loop-number : goal.invariant-loop-number
invariant-loop-number l = Starts (run_of l.plan_run) l.groups l.number l.housing.fillings.items l.housing.homes
