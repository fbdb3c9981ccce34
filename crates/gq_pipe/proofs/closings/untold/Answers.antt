use Rattle.std.proofs.Common.{sym, subst}
use Rattle.gq_pipe.specs.steps.Ahead.{AreUntold}
use Rattle.gq_pipe.proofs.Telling.{more_untold, none_untold}
use Rattle.gq_pipe.proofs.closings.untold.Goals as goal

pub loop-init : goal.loop-init
loop-init c = subst AreUntold (sym c.new-aheads.ensures.items) none_untold

pub loop-preserved : goal.loop-preserved
loop-preserved c = subst AreUntold (sym c.in-Ok.ensures.items) (more_untold c.loop.aheads.items c.loop.invariant)

pub returns-in-Err : goal.returns-in-Err
returns-in-Err c = subst AreUntold (sym c.new.ensures.items) none_untold
