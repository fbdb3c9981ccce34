use Rattle.std.proofs.Common.{◌≡◌, take}
use Rattle.gq_io.specs.Putting.{Put}
use Rattle.gq_reply.specs.ReplyTexts.{spent_text}
use Rattle.gq_reply.proofs.spent.put_all.Given as goal

abbrev pub invariant-loop-index : goal.invariant-loop-index
invariant-loop-index g l =
    Put (g.O.Sink.taken l.initial.out) (g.O.Sink.taken l.out) l.initial.batch l.batch (spent_text 1 (take l.index l.spent))
    × (g.O.Sink.faults l.out ≡ g.O.Sink.faults l.initial.out)
