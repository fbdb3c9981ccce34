use Rattle.gq_pipe.proofs.Telling.{all_stay}
use Rattle.gq_pipe.proofs.Unseen.{kept_open}
use Rattle.gq_pipe.proofs.chain.keep_open.Goals as goal

pub returns-in-None : goal.returns-in-None
returns-in-None c = λ k ss are. all_stay k ss c.args.sight.now c.args.chosen.now

pub returns-else-low-eq0 : goal.returns-else-low-eq0
returns-else-low-eq0 c = λ k ss are. all_stay k ss c.args.sight.now c.args.chosen.now

pub returns-then-is_whole : goal.returns-then-is_whole
returns-then-is_whole c = λ k ss are.
    kept_open k ss c.args.aheads.now c.args.sight.now c.in-Some.next.now c.told-low.result c.args.chosen.now c.keep.new.marks are c.in-Some.ensures c.if-next-sight.true
    (c.is_whole.ensures c.if-is_whole.true) c.told-low.ensures c.if-low-eq0.true c.keep.ensures
