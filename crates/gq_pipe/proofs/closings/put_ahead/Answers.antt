use Rattle.std.proofs.Common.{refl}
use Rattle.gq_pipe.proofs.Telling.{same_put, set_put}
use Rattle.gq_pipe.proofs.closings.put_ahead.Goals as goal

pub returns-in-None : goal.returns-in-None
returns-in-None c = same_put c.args.aheads.now.items c.args.aheads.now.items c.args.depth c.args.ahead refl

pub returns-in-Some : goal.returns-in-Some
returns-in-Some c = set_put c.args.aheads.now.items c.args.depth c.args.ahead
